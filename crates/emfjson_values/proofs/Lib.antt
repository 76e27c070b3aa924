pub mod Fits
mod JsonTexts
mod Literals
pub mod Again
