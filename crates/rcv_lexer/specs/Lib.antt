pub mod Pieces
pub mod Tokens
pub mod Parts
pub mod Laws
pub mod Seen
pub mod Symbols
pub mod Refusing
