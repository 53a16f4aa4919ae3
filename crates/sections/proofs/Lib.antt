pub mod SectionLaws
pub mod LaidParts
pub mod SortedGroups
