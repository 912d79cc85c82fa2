pub mod CostsJson
pub mod Told
pub mod Laws
