pub mod FreshIds
pub mod Edits
pub mod Answers
pub mod Standing
pub mod Laws
pub mod Recording
pub mod RecordingLaws
