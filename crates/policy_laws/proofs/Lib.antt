pub mod Tables
pub mod Workspaces
pub mod Keeping
pub mod Behind
pub mod Scripts
pub mod Denied
pub mod Tools
