pub mod Lists
pub mod Values
pub mod Steps
pub mod Packages
pub mod Rows
pub mod Events
pub mod Formed
