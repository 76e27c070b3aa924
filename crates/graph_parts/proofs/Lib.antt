pub mod Results
pub mod ListLaws
pub mod JoinLaws
mod ShiftLaws
mod Flat
