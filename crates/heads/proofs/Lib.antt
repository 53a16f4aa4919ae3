pub mod Rising
pub mod MarkLaws
pub mod Passing
