pub mod Children
pub mod Objects
pub mod Alike
pub mod Nested
pub mod Order
