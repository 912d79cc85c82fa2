pub mod Causes
pub mod Memory
pub mod Sink
pub mod Source
pub mod Streams
