pub mod Events
pub mod Scripts
pub mod Moving
pub mod Walking
pub mod Endings
