pub mod Frames
pub mod Paged
pub mod Region
