pub mod Items
pub mod Serving
pub mod Standing
pub mod Laws
pub mod Marks
