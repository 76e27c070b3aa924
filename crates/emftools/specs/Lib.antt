pub mod Program
pub mod Roads
