pub mod Pouring
pub mod ReadingLaws
pub mod Rounding
pub mod Filing
