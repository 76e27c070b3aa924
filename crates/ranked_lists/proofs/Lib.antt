pub mod Held
pub mod Places
pub mod Taken
pub mod Keyed
pub mod Ends
