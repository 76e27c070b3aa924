mod ClassifierLaws
pub mod OwnLaws
pub mod PlaceLaws
pub mod SuperLaws
pub mod TableLaws
pub mod Items
