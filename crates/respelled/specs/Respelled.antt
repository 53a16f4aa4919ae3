-- 02, Item 14: "for a label that reaches the look-alike test, list every group in which it could be respelled, ascending, each once; without a
-- confused character, and for kinds emoji and ASCII, there is none. Refusals there: the label call's before 14, then 33."
use Rattle.std.specs.Prelude.{ℕ, suc, refl, Bool, ◌||◌, cond, List, [], ◌∷◌, eqb}
use Rattle.lists.specs.Lists.{all, any}
use Rattle.answers.specs.Verdict.{Verdict, accepted, refused, next}
use Rattle.ending.specs.Ending.{Answering, Result}
use Rattle.table.specs.Table.{Table}
use Rattle.tokens.specs.Scan.{steps}
use Rattle.tokens.specs.Tokens.{Token, tokens_of, normal, joined_text}
use Rattle.confusable.specs.Confusable.{is_confused, respells}
use Rattle.label.specs.Judge.{only_emoji, only_ascii}
use Rattle.name.specs.Label.{Label, one_label, admitted}
use Rattle.group_list.specs.Places.{places_of}
use Rattle.listing.specs.Listing.{ListValues, listing, list_result}

-- "every group in which it could be respelled", by its number from 0: a group that can spell each character of the text otherwise, as 14 has it;
-- "without a confused character .. there is none"
unfoldable pub respelled_in : Table → List ℕ → List ℕ
unfolding is_confused respells places_of
respelled_in t s = cond (any (is_confused t) s) (places_of (λ g. all (respells t g) s) 0 t.groups) []

-- the text at which 14 looks; "for kinds emoji and ASCII, there is none"
unfoldable pub tested_text : List Token → List ℕ
unfolding joined_text
tested_text ts = cond (only_emoji ts || only_ascii ts) [] (joined_text ts)

-- the groups in which a label could be respelled
unfoldable pub groups_for : Table → List ℕ → List ℕ
unfolding respelled_in tested_text tokens_of steps normal
groups_for t l = respelled_in t (tested_text (normal t (tokens_of (steps t l))))

-- "the label call's before 14", by its own verdict: whatever it refuses otherwise. What it accepts, and what it refuses as 14, gives the list.
abbrev pub before14 : Verdict Label → List ℕ → Verdict (List ℕ)
before14 (accepted x) groups = accepted groups
before14 (refused n p) groups = cond (eqb n 14) (accepted groups) (refused n p)

-- Item 13's setting is off
unfoldable pub respelled_before33 : List ℕ → List ℕ → ℕ → Verdict (List ℕ)
unfolding admitted one_label groups_for
respelled_before33 words label work = next (admitted words work label) (λ t. before14 (one_label 0 t label) (groups_for t label))

-- one word an entry, the group's number
abbrev pub group_listing : Answering (List ℕ) ListValues
group_listing = listing 1 (λ g. g ∷ []) (λ g. refl)

-- what the call answers, and every word of the list and of the work area afterwards, on the words of a table and a label, with a list of `room`
-- words and a work area of `work` words
unfoldable pub respelled_call : List ℕ → List ℕ → ℕ → ℕ → Result ListValues
unfolding respelled_before33
respelled_call words label room work = list_result group_listing room work (respelled_before33 words label work)
