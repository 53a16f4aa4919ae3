-- An accepted name's labels, and the forms that are made of them: the normal form of 01 and the screen form of 02, Item 1.
use Rattle.std.specs.Prelude.{ℕ, refl, Bool, false, cond, List, [], ◌∷◌, map, length, get_or, eqb}
use Rattle.lists.specs.Lists.{join_with, joined_map}
use Rattle.answers.specs.Values.{NameValues}
use Rattle.answers.specs.declared.Kind.{Kind}
use Rattle.answers.specs.declared.Kind.TheVariants.{Emoji, Ascii, Group}
use Rattle.ending.specs.Ending.{Answering}
use Rattle.table.specs.Table.{Table}
use Rattle.text.specs.Composition.{nfc}
use Rattle.tokens.specs.Tokens.{codepoints, normal_token}
use Rattle.places.specs.Places.{Source, emoji, text, Placed, token_of, placed}
use Rattle.name.specs.Label.{Label, stop}
use Rattle.name.specs.Name.{labels_of}

-- a label of an accepted name: its tokens as the scan found them, in order, and its kind
pub record Typed : Type 0 where
  pub sources : List Source
  pub kind : Kind

-- the tokens of what was typed for a label
unfoldable pub sources_of : Table → List ℕ → List Source
unfolding placed
sources_of t l = map (λ (x : Placed). x.source) (placed t 0 l)

-- the accepted labels of a name, each with what was typed for it
unfoldable pub typed : Table → List Label → List (List ℕ) → List Typed
unfolding sources_of
typed t [] ls = []
typed t (x ∷ xs) [] = []
typed t (x ∷ xs) (l ∷ ls) = record { sources = sources_of t l; kind = x.kind } ∷ typed t xs ls

-- A form says what is written for a token in a label of a kind.
abbrev pub Form : Type 0
Form = Kind → Source → List ℕ

-- "a label's answer is its tokens put together in order"
unfoldable pub label_form : Form → Typed → List ℕ
label_form f x = joined_map (f x.kind) x.sources

-- "its labels' answers in order, joined by 2E"
unfoldable pub name_form : Form → List Typed → List ℕ
unfolding label_form join_with
name_form f xs = join_with stop (map (label_form f) xs)

-- how a call answers with a form: it, its length and the number of labels, as the name call does
abbrev pub form_answering : Form → List ℕ → Answering (List Typed) NameValues
form_answering f name =
    record {
      form = name_form f;
      given = λ xs. record { number = 0; place = 0; length = length (name_form f xs); labels = length (labels_of name) };
      beside = λ n p. record { number = n; place = p; length = 0; labels = 0 };
      length_of = λ v. v.length;
      long = λ xs. refl;
      none = λ n p. refl;
    }

-- the normal form: NFC of text, emoji stripped of FE0F
unfoldable pub normal_form : Table → Form
unfolding normal_token
normal_form t k x = codepoints (normal_token t (token_of x))

-- "whose kind isn't the Greek group. Which group is Greek is a number given with the call; one beyond the last group means none": labels
-- of emoji and of ASCII are of no group
abbrev pub is_greek : ℕ → Kind → Bool
is_greek greek Emoji = false
is_greek greek Ascii = false
is_greek greek (Group g) = eqb g.number greek

-- "3BE in text shown as 39E in each label whose kind isn't the Greek group"
abbrev pub shown : Bool → ℕ → ℕ
shown greek c = cond greek c (cond (eqb c 0x3BE) 0x39E c)

-- "emoji with every FE0F of their sequence": that of the record that the finder named, the first among equals
unfoldable pub screen_token : Table → Bool → Source → List ℕ
unfolding nfc
screen_token t greek (emoji f) = get_or t.emoji f.number []
screen_token t greek (text s) = map (shown greek) (nfc t s)

-- the screen form: "the same tokens"
unfoldable pub screen_form : Table → ℕ → Form
unfolding screen_token
screen_form t greek k x = screen_token t (is_greek greek k) x
