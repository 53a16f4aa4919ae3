pub mod Fuels
pub mod Lookups
pub mod Fours
pub mod Records
pub mod Searches
pub mod ListSizes
pub mod GroupWalks
