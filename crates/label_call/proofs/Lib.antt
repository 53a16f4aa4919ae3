pub mod OneLabel
