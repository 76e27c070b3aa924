pub mod Cuts
pub mod Heads
pub mod Reading
pub mod Looks
pub mod Turning
pub mod RunLaws
pub mod FaultLaws
