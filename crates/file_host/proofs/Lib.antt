pub mod Ahead
pub mod Going
