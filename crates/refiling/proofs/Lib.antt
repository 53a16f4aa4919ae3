pub mod Joins
pub mod FilingLaws
