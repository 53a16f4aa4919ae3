pub mod Moving
pub mod SortingLaws
