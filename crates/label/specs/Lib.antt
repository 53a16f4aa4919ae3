pub mod Judge
pub mod CellText
pub mod Judging
