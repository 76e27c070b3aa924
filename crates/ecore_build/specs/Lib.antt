pub mod Build
pub mod Faults
pub mod Resolves
