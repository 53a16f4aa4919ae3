-- Laws of the judging: the text alone, its group, and the choice of the kind.
use Rattle.std.specs.Prelude.{Result, Err, Option, Some, None}
use Rattle.answers.specs.declared.Refusal.{Refusal}
use Prim.Native.Nat.{ℕ, ◌+◌, ◌-◌, ◌≤◌}
use native.Mathlib.Omega.{arith}
use mathlib.Core.Path.{◌≡◌, refl, sym, ◌∙◌}
use mathlib.Core.Bool.{Bool, true, false, ◌||◌, false≢true}
use mathlib.Core.List.{List}
use lib.ListN.{length, take, drop}
use lib.Seq.{length-take-le}
use Rattle.limits.specs.Limits.{least_work, most_worked}
use Rattle.answers.specs.Verdict.{Verdict, accepted}
use Rattle.answers.specs.declared.Kind.{Kind}
use Rattle.answers.specs.declared.Kind.TheVariants.{Emoji}
use Rattle.answers.specs.declared.Refusal.TheVariants.{NoGroup}
use Rattle.table.specs.Table.{Table}
use Rattle.lists.specs.Lists.{all}
use Rattle.compounds.proofs.CompoundLaws.{listed_white}
use Rattle.spelling.specs.Spelling.{all_ascii}
use Rattle.spelling.specs.CellTags.{codes_in, tags_in}
use Rattle.groups.specs.declared.FoundGroup.{FoundGroup}
use Rattle.groups.specs.Groups.{group_of, group_found}
use Rattle.label.specs.Judge.{judge_ascii, judge_text}
use Rattle.label.specs.CellText.{text_at, TextAlone}
use Rattle.label.specs.Judging.{verdict_of, in_group, mixed_at, judge_at, CellsJudged}
use Rattle.label.proofs.VerdictLaws.{text-none, text-group}

-- the codepoints are as many as the caller says
pub codes_length : (w : List ℕ) (n : ℕ) → least_work ≤ length w → n ≤ most_worked → n ≡ length (take n w)
codes_length w n h k = sym (length-take-le n w (omega arith))

-- the verdict is known, and nothing is written
pub judged_now : (w : List ℕ) (v : Verdict Kind) (j : Result Kind Refusal) → verdict_of j ≡ v → CellsJudged v w w j
judged_now w v j e = record { same = refl; kept = refl; verdict = e }

pub judged_as : (w w' : List ℕ) (u v : Verdict Kind) (j : Result Kind Refusal) → u ≡ v → CellsJudged u w w' j → CellsJudged v w w' j
judged_as w w' u v j e o = record { same = o.same; kept = o.kept; verdict = o.verdict ∙ e }

-- whether 13 does not apply, asked only where the group is not whitelisted
pub fits_white : (whitelisted fit : Bool) → whitelisted ≡ true → (whitelisted || fit) ≡ true
fits_white true fit e = refl
fits_white false fit e = absurd (false≢true e)

pub fits-asked : (whitelisted fit : Bool) → fit ≡ true → (whitelisted || fit) ≡ true
fits-asked true fit e = refl
fits-asked false fit e = e

pub fits_not : (whitelisted fit : Bool) → whitelisted ≡ false → fit ≡ false → (whitelisted || fit) ≡ false
fits_not true fit e h = absurd (false≢true (sym e))
fits_not false fit e h = h

-- the text alone
module _ (t : Table) (place : ℕ) (w w' : List ℕ) (n m : ℕ) (a : TextAlone w w' n m) where
  abbrev alone : List ℕ
  alone = take (most_worked + m - most_worked) (drop most_worked w')

  alone_text : alone ≡ text_at (codes_in w n) (tags_in w n)
  alone_text =
      let e : most_worked + m - most_worked ≡ m = omega arith in
      rw e a.put

  module _ (r : Option FoundGroup) (found : r ≡ group_found (group_of t.groups alone)) where
    pub judged-none : r ≡ None → CellsJudged (judge_text t place (text_at (codes_in w n) (tags_in w n))) w w' (Err (NoGroup place))
    judged-none e =
        record {
          same = a.same;
          kept = a.kept;
          verdict = text-none t place (text_at (codes_in w n) (tags_in w n)) (sym e ∙ rw alone_text at found);
        }

    pub judged-in_group : all listed_white t.groups ≡ true → (g : FoundGroup) → r ≡ Some g → (j : Result Kind Refusal)
        → verdict_of j ≡ in_group t place alone g.number g.restricted g.whitelisted
        → CellsJudged (judge_text t place (text_at (codes_in w n) (tags_in w n))) w w' j
    judged-in_group white g e j v =
        record {
          same = a.same;
          kept = a.kept;
          verdict =
              (rw alone_text at v)
              ∙ text-group t place (text_at (codes_in w n) (tags_in w n)) white g (sym e ∙ rw alone_text at found);
        }

-- the choice of the kind
module _ (t : Table) (place : ℕ) (s ks : List ℕ) (emoji text : Bool) where
  pub at-emoji : text ≡ false → accepted Emoji ≡ judge_at t place s ks emoji text
  unfolding judge_at
  at-emoji e = rw e

  pub at_ascii : text ≡ true → emoji ≡ false → true ≡ all_ascii s → judge_ascii place s ≡ judge_at t place s ks emoji text
  unfolding judge_at
  at_ascii e f g = rw (e, f, ← g)

  pub at-emoji_mixed : text ≡ true → emoji ≡ true → mixed_at t place s ks ≡ judge_at t place s ks emoji text
  unfolding judge_at
  at-emoji_mixed e f = rw (e, f)

  pub at-text_mixed : text ≡ true → emoji ≡ false → false ≡ all_ascii s → mixed_at t place s ks ≡ judge_at t place s ks emoji text
  unfolding judge_at
  at-text_mixed e f g = rw (e, f, ← g)
