pub mod Caching
pub mod Folding
pub mod Stopping
pub mod Taking
pub mod Between
