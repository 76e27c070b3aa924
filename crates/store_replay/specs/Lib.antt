pub mod Endings
pub mod Moving
pub mod Printing
