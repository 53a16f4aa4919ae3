pub mod CellLaws
pub mod VerdictLaws
pub mod JudgingLaws
pub mod PartedLaws
pub mod FoundLaws
