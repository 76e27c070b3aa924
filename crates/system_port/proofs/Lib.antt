pub mod Begun
pub mod Staying
