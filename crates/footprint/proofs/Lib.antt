pub mod Pairs
pub mod Runs
pub mod Alike
pub mod Held
pub mod Printed
pub mod Sorted
