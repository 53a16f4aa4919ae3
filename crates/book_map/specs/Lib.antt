pub mod Map
pub mod Entries
pub mod SameMap
pub mod SlotEntries
pub mod Jobs
