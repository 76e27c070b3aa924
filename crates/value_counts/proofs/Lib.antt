pub mod CountLaws
pub mod TreeLaws
