pub mod Places
pub mod Used
