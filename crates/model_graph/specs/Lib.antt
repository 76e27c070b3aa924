pub mod Seen
pub mod StateCode
pub mod Lends
