pub mod SameTableLaws
