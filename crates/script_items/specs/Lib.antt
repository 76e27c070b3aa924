pub mod Library
pub mod Generator
pub mod Items
pub mod Words
