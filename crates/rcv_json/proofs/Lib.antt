mod Examples
pub mod Utf8
pub mod Lists
pub mod Floats
pub mod Heads
pub mod Pieces
pub mod Words
pub mod OneJson
