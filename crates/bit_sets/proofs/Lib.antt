pub mod BitLaws
pub mod PutLaws
