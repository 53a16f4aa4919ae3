pub mod ClaimLaws
pub mod TakeLaws
