pub mod Prefixes
pub mod Values
pub mod Walking
pub mod Sizes
pub mod Counts
pub mod Gives
pub mod NamesFit
pub mod ReadHolds
