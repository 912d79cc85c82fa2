mod Examples
pub mod ReadBack
pub mod SmallNumbers
