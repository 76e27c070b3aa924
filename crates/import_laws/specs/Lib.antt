pub mod Names
pub mod Roots
pub mod News
pub mod Values
pub mod Links
pub mod Import
pub mod After
pub mod Laws
