pub mod EmojiCall
pub mod Facts
pub mod Examples
