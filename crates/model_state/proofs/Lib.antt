pub mod Orders
pub mod StepTests
pub mod ChainLaws
pub mod EntryLaws
