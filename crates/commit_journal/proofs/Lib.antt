pub mod Append
pub mod Ends
pub mod Mounting
pub mod Pages
pub mod Torn
pub mod Unique
pub mod Walking
pub mod Writing
