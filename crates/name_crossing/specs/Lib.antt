pub mod NameCrossing
