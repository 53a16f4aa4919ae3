pub mod SeeingLaws
