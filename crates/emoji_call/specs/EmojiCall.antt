-- The call that says which emoji it was (02, Item 8): "besides how far it got, the number of the matching record (from 0) and how many FE0F it
-- took from the input".
use Rattle.std.specs.Prelude.{ℕ, List, Option as Answer, Some, None, Result, Ok, Err}
use Rattle.std.proofs.Math.Option.{Option, none, some}
use Rattle.lists.specs.Lists.{on_some}
use Rattle.table.specs.Layout.{parse}
use Rattle.finder.specs.Emoji.{Found, find}
use Rattle.emoji_call.specs.declared.EmojiMatch.{EmojiMatch}
use Rattle.emoji_call.specs.declared.LayoutFault.{LayoutFault}

-- what the call answers: the refusal number, 0 where there is none; 1 where an emoji is found, else 0; how far it got; the number of the
-- matching record; and the FE0F that it took. Where nothing is found these three are 0.
pub record EmojiValues : Type 0 where
  pub number : ℕ
  pub found : ℕ
  pub taken : ℕ
  pub index : ℕ
  pub selectors : ℕ

-- a layout fault is 1
abbrev pub faulty : EmojiValues
faulty = record { number = 1; found = 0; taken = 0; index = 0; selectors = 0 }

abbrev pub matching : Option Found → EmojiValues
matching none = record { number = 0; found = 0; taken = 0; index = 0; selectors = 0 }
matching (some f) = record { number = 0; found = 1; taken = f.taken.length; index = f.number; selectors = f.taken.selectors }

-- the values of each case of the answer
abbrev pub emoji_values : Result (Answer EmojiMatch) LayoutFault → EmojiValues
emoji_values (Err _) = faulty
emoji_values (Ok None) = record { number = 0; found = 0; taken = 0; index = 0; selectors = 0 }
emoji_values (Ok (Some m)) = record { number = 0; found = 1; taken = m.taken; index = m.index; selectors = m.selectors }

-- The call on the words of a table and a part of a label. The part is taken as it stands: a 2E in it is a codepoint like any other.
unfoldable pub emoji_call : List ℕ → List ℕ → EmojiValues
unfolding parse find
emoji_call words part = on_some (parse words) (λ t. matching (find t.emoji part)) faulty
