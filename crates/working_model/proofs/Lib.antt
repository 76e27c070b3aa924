pub mod Kept
pub mod Freed
