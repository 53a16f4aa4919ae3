pub mod RoundLaws
pub mod Replacing
