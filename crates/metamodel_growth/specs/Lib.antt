pub mod Evolved
pub mod EvolvedLaws
pub mod Extension
pub mod Order
pub mod Preserves
pub mod Renumbered
pub mod Same
