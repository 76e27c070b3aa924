pub mod Answers
pub mod Features
