pub mod AtMostOne
pub mod Starved
