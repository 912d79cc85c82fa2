pub mod TextOrder
pub mod ByStages
pub mod TextOrderLaws
