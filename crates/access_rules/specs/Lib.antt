pub mod Laws
pub mod Reading
pub mod Rule
pub mod Turns
