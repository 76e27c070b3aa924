pub mod Caching
pub mod Putting
pub mod PlayedBytes
pub mod Seen
pub mod There
