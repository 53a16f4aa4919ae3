pub mod WordLaws
pub mod File
