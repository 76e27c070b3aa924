pub mod Rest
pub mod Fields
pub mod Laws
