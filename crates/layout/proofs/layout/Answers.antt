-- `layout::layout` meets its contract. The table is there where the words are few enough, the last section ends with them and all sections are well formed.
use Prim.Native.Nat.{ℕ}
use native.Mathlib.Omega.{arith}
use mathlib.Core.Path.{◌≡◌, sym, ◌∙◌}
use mathlib.Core.List.{List}
use lib.ListN.{length}
use Rattle.sections.specs.declared.Sections.{Sections}
use Rattle.sections.specs.Laid.{sections_of, last_end, AllFit}
use Rattle.sections.proofs.SectionLaws.{parse_long, parse_open, sections_fit}
use Rattle.layout.proofs.SeeingLaws.{fault_out, all_laid, not_laid}
use Rattle.layout.proofs.layout.Goals as goal

-- where the last section ends with the words
ends : (ws : List ℕ) (ix : Sections) → ix ≡ sections_of ws → ix.quick.to ≡ length ws → last_end (sections_of ws) ≡ length ws
ends ws ix e h = let end : ix.quick.to ≡ last_end (sections_of ws) = rw (← e) in omega arith

fit : (ws : List ℕ) (ix : Sections) → ix ≡ sections_of ws → ix.quick.to ≡ length ws → AllFit ws ix
fit ws ix e h = rw e (sections_fit ws (ends ws ix e h))

pub returns-then-words-gt-MOST_WORDS : goal.returns-then-words-gt-MOST_WORDS
returns-then-words-gt-MOST_WORDS c = fault_out _ (parse_long _ (omega arith))

pub returns-then-end-words : goal.returns-then-end-words
returns-then-end-words c =
    let ws = c.args.words.now in
    let end : c.places-ix.result.quick.to ≡ last_end (sections_of ws) = rw (← c.places-ix.ensures) in
    fault_out ws (parse_open ws (omega arith) (λ q. omega arith))

pub sets_found-sets-requires : goal.sets_found-sets-requires
sets_found-sets-requires c = fit _ _ c.places-ix.ensures (omega arith)

pub others_found-others-requires : goal.others_found-others-requires
others_found-others-requires c = fit _ _ c.places-ix.ensures (omega arith)

pub returns-then-all_fit : goal.returns-then-all_fit
returns-then-all_fit c =
    rw c.found_of.ensures
    (all_laid _ _ _ _ c.sets_found-sets.ensures c.others_found-others.ensures c.places-ix.ensures (omega arith) (ends _ _ c.places-ix.ensures (omega arith)) (sym c.all_fit.ensures ∙ c.if-all_fit.true))

pub returns : goal.returns
returns c =
    not_laid _ _ _ _ c.sets_found-sets.ensures c.others_found-others.ensures c.places-ix.ensures (omega arith) (ends _ _ c.places-ix.ensures (omega arith)) (sym c.all_fit.ensures ∙ c.if-all_fit.false)
