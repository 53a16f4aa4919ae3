-- The records of a section from the left, as far as the one of a number.
use Prim.Native.Nat.{ℕ, zero, suc, ◌+◌, ◌-◌, ◌≤◌, ◌<◌}
use native.Mathlib.Omega.{arith}
use mathlib.Core.Path.{◌≡◌, refl, sym, ap, ◌∙◌}
use mathlib.Core.List.{List, [], ◌∷◌}
use lib.ListN.{length, get_or}
use Rattle.table.specs.declared.Span.{Span}
use Rattle.sections.specs.declared.Sections.{Sections}
use Rattle.table.specs.Spans.{within, Fits}
use Rattle.sections.specs.Laid.{Laid}
use Rattle.table.specs.Layout.{the_table}
use Rattle.table.specs.Part.{SequencesAt, SequenceHere, counted_at}
use Rattle.sections.proofs.SectionLaws.{laid-fits}
use Rattle.table.proofs.Lookups.{behind, within-within, behind-fits}
use Rattle.table.proofs.Records.{sequences_step, sequences_end, records_start, sequence_items}
use Rattle.firsts.specs.Firsts.{sequences_in}
use Rattle.finder.specs.Match.{SequenceFits, Sequences}
use Rattle.finder.proofs.FindingLaws.{emoji_known}
use Rattle.emoji_record.specs.Record.{SequenceIs}

-- the records before `at` are passed over, and `left` more have to be
pub record Seeking (part : List ℕ) (number left at : ℕ) : Type 0 where
  pub rest : List (List ℕ)
  pub here : SequencesAt part at rest
  pub same : get_or (sequences_in part) number [] ≡ get_or rest left []

pub seeking_start : (part : List ℕ) (number : ℕ) → Sequences part → Seeking part number number 0
seeking_start part number p = record { rest = sequences_in part; here = records_start _ part (sequences_in part) p.parses; same = refl }

module _ (part : List ℕ) (number left at : ℕ) (w : Seeking part number left at) where
  pub seeking_here : at < length part → SequenceHere part at w.rest
  seeking_here h = sequences_step part at w.rest w.here h

  pub seeking_found : at < length part → left ≡ 0 → SequenceIs part (get_or (sequences_in part) number []) (counted_at part at)
  seeking_found h z =
      let x = seeking_here h in
      record {
        fits = record { ordered = omega arith; inside = x.fits; short = omega (arith, x.high) };
        is =
            sequence_items part at w.rest x
            ∙ sym (w.same ∙ ap (λ (n : ℕ). get_or w.rest n []) z ∙ ap (λ (xs : List (List ℕ)). get_or xs 0 []) x.split);
      }

  pub seeking_more : at < length part → (left ≡ 0 → ⊥) → Seeking part number (left - 1) (counted_at part at).to
  seeking_more h z =
      let x = seeking_here h in
      let one : left ≡ suc (left - 1) = omega arith in
      record { rest = x.rest; here = x.next; same = w.same ∙ ap (λ (xs : List (List ℕ)). get_or xs left []) x.split ∙ ap (λ (n : ℕ). get_or (x.first ∷ x.rest) n []) one }

  pub seeking_none : length part ≤ at → SequenceIs part (get_or (sequences_in part) number []) (record { from = 0; to = 0 })
  seeking_none h =
      let none_left : w.rest ≡ [] = sequences_end part at w.rest w.here h in
      record {
        fits = record { ordered = omega arith; inside = omega arith; short = omega arith };
        is = sym (w.same ∙ ap (λ (xs : List (List ℕ)). get_or xs left []) none_left);
      }

-- what stands in the section stands among the words
module _ (ws : List ℕ) (ix : Sections) (l : Laid ws ix) (number : ℕ) (s : Span)
    (r : SequenceIs (within ix.emoji ws) (get_or (sequences_in (within ix.emoji ws)) number []) s) where
  fit : Fits (within ix.emoji ws) s
  fit = record { ordered = r.fits.ordered; inside = r.fits.inside }

  pub section-sequence : SequenceIs ws (get_or (the_table ws).emoji number []) (behind ix.emoji.from s)
  section-sequence =
      let f = (laid-fits ws ix l).emoji in
      let b = behind-fits ws ix.emoji s f fit in
      record {
        fits = record { ordered = b.ordered; inside = b.inside; short = omega (arith, r.fits.short) };
        is = sym (within-within ws ix.emoji s f fit) ∙ r.is ∙ ap (λ (xs : List (List ℕ)). get_or xs number []) (emoji_known ws ix l);
      }
