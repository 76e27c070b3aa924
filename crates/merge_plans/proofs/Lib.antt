pub mod Gathered
pub mod Numbered
pub mod Paired
