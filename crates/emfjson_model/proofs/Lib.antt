pub mod Digits
pub mod Naming
pub mod Among
