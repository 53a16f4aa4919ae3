pub mod NumberLaws
pub mod NthLaws
