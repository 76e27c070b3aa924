pub mod Everyone
pub mod Apart
pub mod Turned
pub mod Built
