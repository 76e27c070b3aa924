pub mod Few
pub mod Quietly
pub mod Texts
