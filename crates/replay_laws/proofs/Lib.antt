pub mod Quiet
pub mod Deciding
pub mod Standing
pub mod Remade
pub mod Replaying
pub mod Known
