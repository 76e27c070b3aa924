pub mod Left
pub mod Words
pub mod Command
pub mod Reply
pub mod Spelling
