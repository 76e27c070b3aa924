pub mod Pieces
pub mod Grants
pub mod Users
pub mod Spellings
