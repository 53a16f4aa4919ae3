-- What the call's answer says of the part, for every table.
use Rattle.std.specs.Prelude.{ℕ, ◌+◌, ◌<◌, ◌≡◌, refl, List, [], length, get_or, take}
use Rattle.std.proofs.Common.{arith, sym, ap, ◌∙◌}
use Rattle.std.proofs.Math.Option.{Option, none, some}
use Rattle.table.specs.Table.{Table}
use Rattle.table.specs.Layout.{parse}
use Rattle.finder.specs.Emoji.{strip, selectors_in, Found, find}
use Rattle.finder.specs.Finding.{Best, find_best}
use Rattle.finder.specs.Took.{Took, find_took}
use Rattle.emoji_call.specs.EmojiCall.{EmojiValues, matching, emoji_call}

-- Where an emoji is found, what was taken of the part, stripped, is the record of that number stripped, the FE0F in it are as many as answered,
-- and the record is the first among those that take most.
pub record Says (t : Table) (part : List ℕ) (v : EmojiValues) : Type 0 where
  pub inside : v.index < length t.emoji
  pub stripped : strip (take v.taken part) ≡ strip (get_or t.emoji v.index [])
  pub selectors : selectors_in (take v.taken part) ≡ v.selectors
  pub count : v.taken ≡ length (strip (get_or t.emoji v.index [])) + v.selectors
  pub match : Found
  pub best : Best 0 t.emoji part match
  pub same : matching (some match) ≡ v

pub found_says : (words part : List ℕ) (t : Table) → parse words ≡ some t → (emoji_call words part).found ≡ 1 → Says t part (emoji_call words part)
unfolding emoji_call
found_says words part t laid e = rw laid (go (find t.emoji part) refl (rw laid at e))
  where
    go : (o : Option Found) → find t.emoji part ≡ o → (matching o).found ≡ 1 → Says t part (matching o)
    go none q f = absurd (omega arith)
    go (some m) q f =
        let k = find_took t.emoji part m q in
        record {
          inside = k.inside;
          stripped = k.stripped;
          selectors = k.selectors;
          count = k.count ∙ ap (λ (s : List ℕ). length s + m.taken.selectors) k.its;
          match = m;
          best = find_best t.emoji part m q;
          same = refl;
        }
