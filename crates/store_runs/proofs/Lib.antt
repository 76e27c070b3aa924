pub mod Halting
pub mod Headlines
pub mod Printing
pub mod Script
pub mod Starting
