pub mod NameLaws
pub mod NumberLaws
pub mod IndexLaws
pub mod RisingLaws
pub mod DeclaredLaws
pub mod SetLaws
pub mod ParseLaws
pub mod FeatureLaws
