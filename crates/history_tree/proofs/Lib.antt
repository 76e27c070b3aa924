pub mod Growing
pub mod Heads
pub mod HeadsBeside
pub mod Paths
pub mod Since
pub mod Steady
pub mod Bases
mod Flags
pub mod Greatest
mod Leading
mod Tagged
pub mod Named
