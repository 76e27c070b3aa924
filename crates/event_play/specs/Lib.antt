pub mod Playing
pub mod Foreseen
