pub mod BookCrossing
