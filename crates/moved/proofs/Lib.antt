pub mod MovedLaws
