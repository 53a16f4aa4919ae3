pub mod EmojiFields
pub mod GroupFields
pub mod Utf8Fields
