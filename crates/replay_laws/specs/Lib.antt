pub mod Remaking
pub mod Scripts
pub mod Replay
