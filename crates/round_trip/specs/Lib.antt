pub mod Describes
pub mod Imported
pub mod Named
pub mod Laws
