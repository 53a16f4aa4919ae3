-- The rules on the tokens of a label, after 5, 6 and 7: refusals 8 to 14 and 16 "in order", and the kind. 01, "The rules of one label",
-- "Then, on these tokens". The place of these refusals is the number of the label.
use Rattle.std.specs.Prelude.{ℕ, Bool, true, false, not, ◌&&◌, cond, List, [], ◌∷◌}
use Rattle.lists.specs.Lists.{all, on_some}
use Rattle.answers.specs.Verdict.{Verdict, accepted, refused}
use Rattle.answers.specs.declared.Kind.{Kind}
use Rattle.answers.specs.declared.Kind.TheVariants.{Emoji, Ascii, Group}
use Rattle.table.specs.Table.{Table}
use Rattle.tokens.specs.Tokens.{Token, emoji, text, is_emoji, joined_tokens, joined_text}
use Rattle.nsm.specs.Marks.{nsm_fits}
use Rattle.compounds.specs.Compounds.{compounds_fit}
use Rattle.spelling.specs.Spelling.{low_line, hyphens, fenced, leading_mark, all_ascii}
use Rattle.confusable.specs.Confusable.{confusable}
use Rattle.groups.specs.Groups.{Numbered, group_of}

-- "Only emoji tokens"
abbrev pub only_emoji : List Token → Bool
only_emoji ts = all is_emoji ts

-- "A single token, which is text, all below 80 hex"
abbrev pub only_ascii : List Token → Bool
only_ascii [] = false
only_ascii (emoji s ∷ ts) = false
only_ascii (text s ∷ []) = all_ascii s
only_ascii (text s ∷ u ∷ us) = false

-- the first refusal that applies, or what follows
abbrev pub unless : Bool → ℕ → ℕ → Verdict Kind → Verdict Kind
unless true number place v = refused number place
unless false number place v = v

-- "rules 8 and 9, kind ASCII"
unfoldable pub judge_ascii : ℕ → List ℕ → Verdict Kind
unfolding low_line hyphens
judge_ascii place s = unless (low_line s) 8 place (unless (hyphens s) 9 place (accepted Ascii))

-- "If it isn't whitelisted, decompose the text; in every run of NSM .., else 13. Then 14, on the text as composed. The kind is that
-- group." 02, Item 12: in a group with a list, which is whitelisted, 16 "takes the place of 13".
unfoldable pub judge_in_group : Table → ℕ → List ℕ → Numbered → Verdict Kind
unfolding nsm_fits compounds_fit confusable
judge_in_group t place s g =
    unless (not (compounds_fit t g.group.sequences s)) 16 place
    (unless (not g.group.whitelisted && not (nsm_fits t s)) 13 place
    (unless (confusable t s) 14 place
    (accepted (Group (record { number = g.number; restricted = g.group.restricted })))))

-- "then the joined text alone: the first group that holds every character, else 12"
unfoldable pub judge_text : Table → ℕ → List ℕ → Verdict Kind
unfolding group_of judge_in_group
judge_text t place s = on_some (group_of t.groups s) (judge_in_group t place s) (refused 12 place)

-- "Otherwise 8 and 10 over the joined tokens, 11 for each text token"
unfoldable pub judge_mixed : Table → ℕ → List Token → Verdict Kind
unfolding low_line fenced leading_mark judge_text joined_tokens joined_text
judge_mixed t place ts =
    unless (low_line (joined_tokens ts)) 8 place
    (unless (fenced t (joined_tokens ts)) 10 place (unless (leading_mark t ts) 11 place (judge_text t place (joined_text ts))))

-- "Only emoji tokens: kind emoji." "A single token, which is text, all below 80 hex" is ASCII's; "otherwise" the rest.
unfoldable pub judge : Table → ℕ → List Token → Verdict Kind
unfolding judge_ascii judge_mixed joined_tokens
judge t place ts =
    cond (only_emoji ts) (accepted Emoji) (cond (only_ascii ts) (judge_ascii place (joined_tokens ts)) (judge_mixed t place ts))
