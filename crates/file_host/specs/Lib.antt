pub mod Counting
pub mod Known
