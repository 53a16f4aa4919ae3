pub mod GroupLaws
pub mod CallLaws
pub mod BoundLaws
