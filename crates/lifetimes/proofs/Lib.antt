pub mod Lives
pub mod Guarded
