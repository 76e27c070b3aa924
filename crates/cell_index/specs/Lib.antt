pub mod Keys
pub mod Near
pub mod Draining
pub mod Standing
