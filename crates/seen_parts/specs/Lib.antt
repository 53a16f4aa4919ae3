pub mod SeesParts
