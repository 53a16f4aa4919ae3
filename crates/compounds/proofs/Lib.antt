pub mod CompoundLaws
