pub mod HashCrossing
