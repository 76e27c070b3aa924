pub mod Turns
pub mod Laws
pub mod Reads
pub mod Runs
pub mod Faults
