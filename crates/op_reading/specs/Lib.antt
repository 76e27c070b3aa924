pub mod Reading
pub mod Values
pub mod Steps
pub mod Packages
pub mod Events
pub mod Given
pub mod Laws
