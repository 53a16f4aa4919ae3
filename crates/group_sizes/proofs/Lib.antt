pub mod GroupLaws
pub mod ApartLaws
