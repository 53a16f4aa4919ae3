pub mod CoverLaws
pub mod PointLaws
pub mod WindowLaws
