pub mod Alone
pub mod Listed
pub mod Popping
pub mod Releasing
pub mod Storing
pub mod Standing
