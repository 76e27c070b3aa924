pub mod Asked
pub mod Digits
pub mod Graphic
pub mod Items
pub mod Library
pub mod Plain
pub mod Rounds
pub mod Script
