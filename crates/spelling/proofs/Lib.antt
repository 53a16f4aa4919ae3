pub mod SpellingLaws
pub mod LeadingLaws
