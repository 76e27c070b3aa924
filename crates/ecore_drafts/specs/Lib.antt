pub mod Classifiers
pub mod Counts
pub mod Document
pub mod Drafts
pub mod Fit
pub mod Supers
