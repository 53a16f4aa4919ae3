pub mod Spelling
pub mod CellTags
