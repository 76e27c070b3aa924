pub mod Storage
pub mod Compact
