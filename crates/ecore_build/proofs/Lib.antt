mod BuildLaws
mod NoFault
mod OwnerLaws
pub mod SoundLaws
mod EndLaws
mod BuiltNames
mod BoundLaws
mod RangeLaws
pub mod ChainLaws
mod AboveLaws
pub mod PromiseLaws
mod OwnLaws
