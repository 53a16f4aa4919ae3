pub mod NormalCrossing
