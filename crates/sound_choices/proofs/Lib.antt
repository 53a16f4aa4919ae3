pub mod RoundLaws
pub mod WalkLaws
pub mod ClearedLaws
pub mod ChoiceLaws
pub mod WordLaws
