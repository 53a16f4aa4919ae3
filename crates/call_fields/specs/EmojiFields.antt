-- The fields of the call that says which emoji it was are its values.
use Rattle.emoji_call.specs.EmojiCall.{EmojiValues}
use Rattle.call_fields.specs.declared.emoji.WanlophengEmoji.{WanlophengEmoji}

abbrev pub emoji_fields : WanlophengEmoji → EmojiValues
emoji_fields r =
    record { number = r.number; found = r.found; taken = r.taken; index = r.index; selectors = r.selectors }
