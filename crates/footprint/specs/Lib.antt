pub mod Interference
pub mod Same
pub mod Laws
pub mod Buckets
pub mod Order
pub mod Prints
