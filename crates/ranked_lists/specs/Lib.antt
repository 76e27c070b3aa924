pub mod Ranks
pub mod Ranked
