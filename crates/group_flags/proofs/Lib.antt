pub mod FlagWalks
