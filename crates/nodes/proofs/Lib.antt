pub mod Slots
pub mod Named
pub mod Listed
