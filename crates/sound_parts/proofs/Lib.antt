pub mod Walks
pub mod ScalarLaws
pub mod SectionsHold
