-- The set is empty exactly where its section has no words.
use Prim.Native.Nat.{ℕ, ◌-◌}
use native.Mathlib.Omega.{arith}
use mathlib.Core.Path.{◌≡◌, refl, ◌∙◌}
use mathlib.Core.Bool.{true, false}
use mathlib.Core.List.{List, [], ◌∷◌}
use mathlib.Core.Option.{some}
use lib.ListN.{length, drop, length-drop}
use lib.Seq.{length-take-le}
use lib.Dec.{leb}
use Rattle.lists.specs.Lists.{is_empty}
use Rattle.table.specs.Table.{Range}
use Rattle.table.specs.Layout.{in_front, ranges, the_table}
use Rattle.table.specs.Spans.{within}
use Rattle.table.proofs.Lookups.{only_if-some, in_front-some}
use Rattle.sections.specs.declared.Sections.{Sections}
use Rattle.sections.specs.Laid.{Laid}
use Rattle.sections.proofs.SectionLaws.{laid-fits, laid_reads}

ranges_empty : (ws : List ℕ) (rs : List Range) → ranges ws ≡ some rs → is_empty rs ≡ is_empty ws
unfolding ranges
ranges_empty [] rs h = let e : rs ≡ [] = cc in rw e
ranges_empty (a ∷ []) rs h = cc
ranges_empty (a ∷ b ∷ ws) rs h =
    let k = only_if-some (leb a b) (in_front (record { first = a; last = b }) (ranges ws)) rs h in
    let q = in_front-some (record { first = a; last = b }) (ranges ws) rs k.1 in
    rw q.2

no_words : (ws : List ℕ) → length ws ≡ 0 → is_empty ws ≡ true
no_words [] e = refl
no_words (w ∷ ws) e = absurd (omega arith)

some_words : (ws : List ℕ) → (length ws ≡ 0 → ⊥) → is_empty ws ≡ false
some_words [] n = absurd (n refl)
some_words (w ∷ ws) n = refl

module _ (ws : List ℕ) (ix : Sections) (l : Laid ws ix) where
  set_words : length (within ix.quick ws) ≡ ix.quick.to - ix.quick.from
  set_words =
      let f = (laid-fits ws ix l).quick in
      length-take-le (ix.quick.to - ix.quick.from) (drop ix.quick.from ws) (simp length-drop (omega (arith, f.ordered, f.inside)))

  set_reads : is_empty (the_table ws).quick_check ≡ is_empty (within ix.quick ws)
  set_reads = ranges_empty (within ix.quick ws) (the_table ws).quick_check (laid_reads ws ix l).quick

  pub set_empty : ix.quick.from ≡ ix.quick.to → is_empty (the_table ws).quick_check ≡ true
  set_empty e = set_reads ∙ no_words (within ix.quick ws) (omega (arith, set_words, e))

  pub set_some : (ix.quick.from ≡ ix.quick.to → ⊥) → is_empty (the_table ws).quick_check ≡ false
  set_some n = set_reads ∙ some_words (within ix.quick ws) (λ z. n (omega (arith, z, set_words, (laid-fits ws ix l).quick.ordered)))
