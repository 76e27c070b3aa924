pub mod Dots
pub mod Printing
pub mod Spaced
