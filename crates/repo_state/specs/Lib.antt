pub mod Cached
pub mod Counting
pub mod Counts
pub mod Keeping
pub mod Making
pub mod Planning
pub mod Sizes
pub mod Working
