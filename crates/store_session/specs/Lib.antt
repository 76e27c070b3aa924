pub mod Opening
pub mod Session
pub mod State
pub mod Endings
pub mod Tasks
