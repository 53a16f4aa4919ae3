pub mod HeadLaws
pub mod SettledLaws
