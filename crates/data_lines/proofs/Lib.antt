pub mod VersionLines
