-- Laws of the filter of confused characters.
use Prim.Native.Nat.{ℕ, ◌+◌, ◌/◌, ◌%◌, ◌<◌, ◌≤◌}
use native.Mathlib.Omega.{arith}
use mathlib.Core.Path.{◌≡◌, refl, sym, ◌∙◌, ap}
use mathlib.Core.Bool.{Bool, true, false, ◌||◌}
use mathlib.Core.List.{List, [], ◌∷◌}
use mathlib.Core.Option.{Option, none, some}
use lib.ListN.{length, get_or, replicate, length-replicate, get_or-replicate}
use lib.Dec.{eqb}
use borrow.Author.Tests.{eqb-true, eq-eqb}
use Rattle.lists.specs.Lists.{is_some, mem}
use Rattle.lists.specs.Tests.{never, not_so}
use Rattle.bit_sets.specs.Sets.{has, Put}
use Rattle.bit_sets.proofs.BitLaws.{bit_full}
use Rattle.bit_sets.proofs.PutLaws.{Putting, putting_start, putting_on, putting_done}
use Rattle.table.specs.Table.{Whole}
use Rattle.table.specs.Layout.{wholes, the_table}
use Rattle.table.specs.Lookup.{whole_of}
use Rattle.table.specs.Part.{WholesAt, WholeHere, WholeFound, confused_at, counted_at, records_in, wholes_in}
use Rattle.table.specs.Spans.{within, Fits}
use Rattle.table.specs.declared.Span.{Span}
use Rattle.std.specs.declared.option.Option.TheVariants.{None}
use Rattle.table.proofs.Lookups.{false_true}
use Rattle.table.proofs.Records.{records_start, wholes_end, wholes_step, within_count}
use Rattle.sections.specs.declared.Sections.{Sections}
use Rattle.sections.specs.Laid.{Laid}
use Rattle.sections.proofs.SectionLaws.{laid_reads}
use Rattle.confused_set.specs.Filter.{filter_words, place_of, placed, noted, Filter}

-- The walk over the wholes has come to `at`: what is left of them is still to be put.
pub record Noting (part old cur : List ℕ) (at : ℕ) : Type 0 where
  pub left : List Whole
  pub walk : WholesAt part at left
  pub put : Putting (noted (wholes_in part)) (noted left) old cur

pub noting_start : (part old : List ℕ) → is_some (wholes (length part) part) ≡ true → Noting part old old 0
unfolding records_in
noting_start part old h = go (wholes (length part) part) refl h
  where
    go : (o : Option (List Whole)) → wholes (length part) part ≡ o → is_some o ≡ true → Noting part old old 0
    go none e i = absurd (false_true i)
    go (some xs) e i =
        let same : wholes_in part ≡ xs = rw e in
        record { left = xs; walk = records_start wholes part xs e; put = rw same (putting_start (noted xs) old) }

module _ (part old cur : List ℕ) (at : ℕ) (n : Noting part old cur at) where
  pub noting_stop : length part ≤ at → Put old cur (noted (wholes_in part))
  noting_stop h =
      let e : n.left ≡ [] = wholes_end part at n.left n.walk h in
      putting_done (noted (wholes_in part)) old (noted n.left) cur n.put (λ d i. ap (λ (l : List Whole). noted l d) e)

  -- the whole where words are left: v is its valid list, k its confused one
  module _ (h : at < length part) where
    pub here : WholeHere part at n.left
    here = wholes_step part at n.left n.walk h

    module _ (v k : Span) (a : v ≡ counted_at part at) where
      pub confused_room : v.to + 1 + get_or part v.to 0 ≤ length part
      confused_room = rw a here.fits

      module _ (b : k ≡ counted_at part v.to) where
        confused_at_lem : k ≡ counted_at part (confused_at part at)
        confused_at_lem = rw a at b

        confused_is : within k part ≡ here.first.confused
        confused_is =
            let m : ℕ = confused_at part at in
            rw confused_at_lem (within_count part (m + 1) (get_or part m 0) ∙ sym here.confused)

        pub confused_fits : Fits part k
        confused_fits = rw confused_at_lem (record { ordered = omega arith; inside = here.fits })

        pub noting_less : at < k.to
        noting_less = rw confused_at_lem (omega arith)

        pub noting_on : (new : List ℕ) → Put cur new (placed (within k part)) → Noting part old new k.to
        noting_on new p =
            record {
              left = here.rest;
              walk = rw confused_at_lem here.next;
              put = putting_on (noted (wholes_in part)) old (noted n.left) cur n.put (placed (within k part)) (noted here.rest) new
                  (λ d i.
                  ap (λ (l : List Whole). noted l d) here.split
                  ∙ ap (λ (l : List ℕ). placed l d || noted here.rest d) (sym confused_is)) p;
            }

-- what is in a list has its bit there
or_right : (a b : Bool) → b ≡ true → (a || b) ≡ true
or_right true b e = refl
or_right false b e = e

neither : (a b : Bool) → (a || b) ≡ false → (a ≡ false) × (b ≡ false)
neither true b e = never true refl e
neither false b e = (refl, e)

mem-placed : (c : ℕ) (items : List ℕ) → mem c items ≡ true → placed items (place_of c) ≡ true
mem-placed c [] e = e
mem-placed c (x ∷ items) e = go (eqb c x) refl e (mem-placed c items)
  where
    go : (b : Bool) → eqb c x ≡ b → b || mem c items ≡ true → (mem c items ≡ true → placed items (place_of c) ≡ true)
        → eqb (place_of c) (place_of x) || placed items (place_of c) ≡ true
    go true f g later = rw (eq-eqb (place_of c) (place_of x) (ap (λ (y : ℕ). place_of y) (eqb-true c x f)))
    go false f g later = or_right (eqb (place_of c) (place_of x)) (placed items (place_of c)) (later g)

-- a character whose bit is not put has no whole
unnoted : (ws : List Whole) (c : ℕ) → noted ws (place_of c) ≡ false → whole_of ws c ≡ none
unfolding whole_of
unnoted [] c e = refl
unnoted (w ∷ ws) c e =
    let p = neither (placed w.confused (place_of c)) (noted ws (place_of c)) e in
    let m : mem c w.confused ≡ false
    = not_so (mem c w.confused) (λ f. never (placed w.confused (place_of c)) (mem-placed c w.confused f) p.0) in
    rw m (unnoted ws c p.1)

noted_filter : (ws : List Whole) (old new : List ℕ) → length old ≡ filter_words → Put old new (noted ws) → Filter ws new
noted_filter ws old new l p =
    record {
      size = p.room ∙ l;
      clear = λ c e. unnoted ws c (neither (noted ws (place_of c)) (has old (place_of c)) (sym (p.each (place_of c) (omega arith)) ∙ e)).0;
    }

pub made_filter : (ws : List ℕ) (ix : Sections) → Laid ws ix → (old new : List ℕ) → length old ≡ filter_words
    → Put old new (noted (wholes_in (within ix.wholes ws))) → Filter (the_table ws).wholes new
unfolding records_in
made_filter ws ix l old new e p = noted_filter (the_table ws).wholes old new e (rw (laid_reads ws ix l).wholes at p)

-- the set is cleared before
pub cleared_size : (old cur : List ℕ) → old ≡ replicate filter_words 0xFFFFFFFF → cur ≡ replicate (length old) 0 → length cur ≡ filter_words
cleared_size old cur e f = rw (f, length-replicate {A = ℕ} (length old) 0, e) (length-replicate {A = ℕ} filter_words 0xFFFFFFFF)

-- with every bit set nothing is ruled out
pub full_filter : (ws : List Whole) (set : List ℕ) → set ≡ replicate filter_words 0xFFFFFFFF → Filter ws set
unfolding has
full_filter ws set e =
    record {
      size = rw e (length-replicate {A = ℕ} filter_words 0xFFFFFFFF);
      clear = λ c f. never (has set (place_of c)) (full c) f;
    }
  where
    full : (c : ℕ) → has set (place_of c) ≡ true
    full c = rw (e, get_or-replicate {A = ℕ} filter_words (place_of c / 32) 0xFFFFFFFF 0 (omega arith)) (bit_full (place_of c % 32) (omega arith))

-- a clear bit answers
pub clear_found : (words set : List ℕ) (xs : List Whole) (c : ℕ) → Filter xs set → has set (place_of c) ≡ false → WholeFound words (whole_of xs c) None
clear_found words set xs c f e = record { same = sym (f.clear c e); fits = tt }
