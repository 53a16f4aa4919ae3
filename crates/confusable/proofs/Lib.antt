pub mod ExtentLaws
pub mod HolderLaws
