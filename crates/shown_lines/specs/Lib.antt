pub mod Lines
pub mod Typed
pub mod Validation
pub mod Versions
pub mod Laws
pub mod Buckets
