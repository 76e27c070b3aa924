pub mod Keeps
pub mod Builds
pub mod Bytes
pub mod Packages
