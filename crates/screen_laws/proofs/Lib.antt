pub mod RenderedLaws
pub mod RestoredLaws
pub mod EndLaws
pub mod InstanceLaws
