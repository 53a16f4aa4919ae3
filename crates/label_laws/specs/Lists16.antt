-- 02, Item 12: 16 "takes the place of 13": a group without a list is judged by 13 as before, one with a list by 16 alone.
use Rattle.std.specs.Prelude.{ℕ, ◌≡◌, true, not, ◌&&◌, List}
use Rattle.std.proofs.Math.Option.{none, some}
use Rattle.lists.specs.Lists.{all}
use Rattle.answers.specs.Verdict.{Verdict, accepted}
use Rattle.answers.specs.declared.Kind.{Kind}
use Rattle.answers.specs.declared.Kind.TheVariants.{Group}
use Rattle.table.specs.Table.{Table}
use Rattle.confusable.specs.Confusable.{confusable}
use Rattle.groups.specs.Groups.{Numbered}
use Rattle.nsm.specs.Marks.{nsm_fits}
use Rattle.compounds.specs.Compounds.{compounds, in_list, compounds_fit}
use Rattle.label.specs.Judge.{unless, judge_in_group}

-- 14, and the kind
abbrev pub from14 : Table → ℕ → List ℕ → Numbered → Verdict Kind
from14 t place s g = unless (confusable t s) 14 place (accepted (Group (record { number = g.number; restricted = g.group.restricted })))

module _ (t : Table) (place : ℕ) (s : List ℕ) (g : Numbered) where
  -- "Without the flag 16 is not given and the answers stay"
  pub unlisted : g.group.sequences ≡ none → judge_in_group t place s g ≡ unless (not g.group.whitelisted && not (nsm_fits t s)) 13 place (from14 t place s g)
  unfolding judge_in_group compounds_fit
  unlisted e = rw e

  -- A group that is whitelisted and has a list: 13 is not asked, and the list permits what it lists, no more. In every table a group with a list is
  -- whitelisted: `sequence_laws` `Laid` `listed_white`, and there `judged-listed` says this of the group found.
  pub listed : (list : List (List ℕ)) → g.group.whitelisted ≡ true → g.group.sequences ≡ some list
      → judge_in_group t place s g ≡ unless (not (all (in_list list) (compounds t s))) 16 place (from14 t place s g)
  unfolding judge_in_group compounds_fit
  listed list w e = rw (w, e)
