pub mod Keys
pub mod Tree
pub mod Laws
