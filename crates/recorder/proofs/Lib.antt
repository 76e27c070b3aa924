pub mod Shifts
pub mod Founds
