pub mod Cached
pub mod Taking
