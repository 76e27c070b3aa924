pub mod Items
pub mod Codes
pub mod ValueCodes
pub mod StepCodes
pub mod PackageCodes
pub mod EventCodes
