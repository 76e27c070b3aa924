pub mod Deciding
pub mod Again
pub mod Saying
pub mod Lists
