pub mod LeftLaws
pub mod WalkLaws
