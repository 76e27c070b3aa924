pub mod Going
pub mod RunLaws
