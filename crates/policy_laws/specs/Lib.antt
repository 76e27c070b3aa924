pub mod Tables
pub mod Behind
pub mod Keeping
pub mod Roles
pub mod Denied
