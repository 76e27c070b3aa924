pub mod Classes
pub mod Table
pub mod References
pub mod Walk
pub mod Rows
pub mod Metamodel
pub mod Laws
