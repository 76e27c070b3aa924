pub mod Again
pub mod Answering
pub mod Entering
pub mod Faults
pub mod Holding
pub mod Loading
pub mod Playing
pub mod Reading
