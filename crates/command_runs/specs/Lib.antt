pub mod Runs
pub mod Crashes
