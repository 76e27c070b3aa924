pub mod TabulateLaws
pub mod SpreadLaws
pub mod PartLaws
pub mod BareLaws
pub mod KeyLaws
pub mod CopyLaws
