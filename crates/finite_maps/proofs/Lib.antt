pub mod MapLaws
pub mod CountLaws
pub mod EqualLaws
pub mod TableLaws
pub mod SortLaws
pub mod NestedLaws
pub mod Cases
pub mod Truths
