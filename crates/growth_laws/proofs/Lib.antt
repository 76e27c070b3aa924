pub mod Keeps
pub mod Kept
pub mod Lists
pub mod Runs
pub mod States
pub mod Tests
pub mod Texts
