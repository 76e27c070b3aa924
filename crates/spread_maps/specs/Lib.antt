pub mod Spread
pub mod Writes
