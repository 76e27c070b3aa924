pub mod Sources
pub mod Answers
pub mod Targets
