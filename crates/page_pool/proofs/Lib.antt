pub mod Among
pub mod Filling
pub mod Giving
pub mod Pieces
pub mod Slots
pub mod Soundness
pub mod Steps
