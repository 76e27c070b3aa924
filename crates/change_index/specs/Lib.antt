pub mod Index
pub mod Last
pub mod Laws
pub mod Table
pub mod Written
