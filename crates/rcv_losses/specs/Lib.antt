pub mod Totals
pub mod LossText
