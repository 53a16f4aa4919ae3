-- The judging of tokens in the steps that the code takes, over codepoints with tags beside them.
use Rattle.answers.specs.declared.Refusal.{Refusal}
use Rattle.std.specs.Prelude.{ℕ, ◌≡◌, Bool, not, ◌&&◌, ◌||◌, cond, List, length, take, Result, Ok, Err}
use Rattle.limits.specs.Limits.{most_worked}
use Rattle.answers.specs.Verdict.{Verdict, accepted, refused}
use Rattle.answers.specs.Values.{number_of, place_of}
use Rattle.answers.specs.declared.Kind.{Kind}
use Rattle.answers.specs.declared.Kind.TheVariants.{Emoji, Group}
use Rattle.table.specs.Table.{Table}
use Rattle.nsm.specs.Marks.{nsm_fits}
use Rattle.compounds.specs.Compounds.{compounds_fit, list_of}
use Rattle.spelling.specs.Spelling.{all_ascii, low_line, fenced}
use Rattle.spelling.specs.CellTags.{leading_at}
use Rattle.confusable.specs.Confusable.{confusable}
use Rattle.label.specs.Judge.{unless, judge_ascii, judge_text}
use Rattle.label.specs.CellText.{text_at}

-- what an answer of the judging stands for
abbrev pub verdict_of : Result Kind Refusal → Verdict Kind
verdict_of (Ok k) = accepted k
verdict_of (Err r) = refused (number_of r) (place_of r)

-- 14, where it is known whether 13 applies
unfoldable pub group_verdict : Table → ℕ → List ℕ → Bool → ℕ → Bool → Verdict Kind
group_verdict t place s fits number restricted =
    unless (not fits) 13 place (unless (confusable t s) 14 place (accepted (Group (record { number = number; restricted = restricted }))))

-- 16, 13 and 14 in a group; only one that is whitelisted has a list
unfoldable pub in_group : Table → ℕ → List ℕ → ℕ → Bool → Bool → Verdict Kind
in_group t place s number restricted whitelisted =
    unless (not (not whitelisted || compounds_fit t (list_of t.groups number) s)) 16 place (group_verdict t place s (whitelisted || nsm_fits t s) number restricted)

-- "Otherwise 8 and 10 over the joined tokens, 11 for each text token, then the joined text alone"
unfoldable pub mixed_at : Table → ℕ → List ℕ → List ℕ → Verdict Kind
mixed_at t place s ks =
    unless (low_line s) 8 place (unless (fenced t s) 10 place (unless (leading_at t s ks) 11 place (judge_text t place (text_at s ks))))

-- the verdict on codepoints with tags, where it is known whether there are emoji tokens and whether there are text tokens
unfoldable pub judge_at : Table → ℕ → List ℕ → List ℕ → Bool → Bool → Verdict Kind
judge_at t place s ks emoji text =
    cond (not text) (accepted Emoji) (cond (not emoji && all_ascii s) (judge_ascii place s) (mixed_at t place s ks))

-- what is answered where the verdict is v: the codepoints are kept
pub record CellsJudged (v : Verdict Kind) (w w' : List ℕ) (r : Result Kind Refusal) : Type 0 where
  pub same : length w' ≡ length w
  pub kept : take most_worked w' ≡ take most_worked w
  pub verdict : verdict_of r ≡ v
