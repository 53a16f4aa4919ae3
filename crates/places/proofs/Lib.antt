pub mod PlaceLaws
pub mod PartLaws
