pub mod Pieces
pub mod Messages
pub mod TableJson
pub mod RoleJson
pub mod ReadBack
pub mod Laws
