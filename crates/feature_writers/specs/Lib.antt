pub mod Replies
pub mod Writers
