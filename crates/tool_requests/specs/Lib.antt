pub mod Denials
pub mod Turns
pub mod Words
