pub mod Screen
