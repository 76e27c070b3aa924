pub mod Stays
pub mod Writes
