pub mod Items
pub mod Bits
pub mod Pairs
pub mod Firsts
pub mod OneJournal
pub mod Texts
pub mod LineFeed
pub mod RoundTrip
pub mod Wholes
mod Examples
