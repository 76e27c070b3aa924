pub mod Given
pub mod Counts
pub mod Indexes
