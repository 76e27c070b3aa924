pub mod Branches
pub mod Other
