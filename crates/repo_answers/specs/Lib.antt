pub mod Counting
pub mod Decisions
pub mod Loads
pub mod Needs
pub mod Shown
