pub mod Rows
pub mod Far
pub mod Rises
pub mod Touching
pub mod NoneMeets
pub mod Drained
