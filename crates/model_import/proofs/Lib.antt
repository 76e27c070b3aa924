pub mod Rows
pub mod GivenIds
pub mod PlaceCounts
pub mod FirstPlaces
