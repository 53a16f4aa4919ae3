pub mod ListingCrossing
