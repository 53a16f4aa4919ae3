pub mod StripLaws
pub mod SortedLaws
