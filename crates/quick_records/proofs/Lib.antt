pub mod FitLaws
pub mod BehindLaws
