-- The loop of the finder: the best match so far, and the records that are left.
use Prim.Native.Nat.{ℕ, suc, ◌+◌, ◌≤◌, ◌<◌}
use native.Mathlib.Omega.{arith}
use native.Mathlib.Numerals.{add-one}
use mathlib.Core.Path.{◌≡◌, refl, sym, ◌∙◌, ap}
use mathlib.Core.Bool.{Bool, true, false, ◌||◌}
use mathlib.Core.List.{List, [], ◌∷◌, ◌++◌, append-nil}
use mathlib.Core.Option.{Option, none, some}
use lib.ListN.{length, get_or, take}
use lib.Dec.{eqb, ltb}
use borrow.Author.Tests.{eqb-true, eqb-false, le-leb, lt-leb}
use Rattle.lists.specs.Lists.{on_some}
use Rattle.table.specs.declared.Span.{Span}
use Rattle.sections.specs.declared.Sections.{Sections}
use Rattle.table.specs.Layout.{sequences, the_table}
use Rattle.table.specs.Spans.{within, Fits}
use Rattle.sections.specs.Laid.{Laid}
use Rattle.table.specs.Part.{records_in, SequencesAt, SequenceHere, counted_at}
use Rattle.sections.proofs.SectionLaws.{laid-fits, laid_reads}
use Rattle.table.proofs.Lookups.{false_true, behind, within-within, behind-fits}
use Rattle.table.proofs.Records.{sequences_step, sequences_end, sequence_items}
use Rattle.place_marks.specs.declared.Marks.{Marks}
use Rattle.firsts.specs.declared.Start.{Start}
use Rattle.firsts.specs.Firsts.{optional, sequences_in, first_of, steady, Avoids, FirstsKnown, Passing}
use Rattle.firsts.proofs.Steady.{first_item, steady_rest, steady-behind, avoid_behind}
use Rattle.std.specs.Prelude.{Option as Answer, Some, None, slice_get}
use Rattle.std.proofs.lemmas.Option.{none-some, same_Some}
use Rattle.finder.specs.declared.emoji.Uncounted.{Uncounted}
use Rattle.finder.specs.Emoji.{Taken, Found, takes, strip, selectors_in, found, longer, find_from, find}
use Rattle.finder.specs.Matching.{takes-fits}
use Rattle.finder.specs.Finding.{find_best, longer_assoc}
use Rattle.finder.proofs.Taking.{takes_none}
use Rattle.finder.specs.Match.{taken_of, uncounted_of, match_of, better_of, onward, SequenceFits, UncountedFits, UncountedBy, FoundBy, Sequences}

-- the match of a record, as the definition has it
match_found : (ws rest : List ℕ) (n : ℕ) (s : Span) (k : Answer ℕ) → uncounted_of ws rest (match_of n s k) ≡ on_some (taken_of rest k) (found n (within s ws)) none
match_found ws rest n s None = refl
match_found ws rest n s (Some k) = go (eqb k 0) refl
  where
    go : (b : Bool) → eqb k 0 ≡ b
        → uncounted_of ws rest (match_of n s (Some k)) ≡ found n (within s ws) (record { length = k; selectors = selectors_in (take k rest) })
    go true p =
        let z : k ≡ 0 = eqb-true _ _ p in
        let less : k < 1 = omega arith in
        rw (p, lt-leb 1 k less)
    go false p =
        let other : k ≡ 0 → ⊥ = eqb-false _ _ p in
        let low : 1 ≤ k = omega arith in
        rw (p, le-leb 1 k low)

match_fits : (ws : List ℕ) (n : ℕ) (s : Span) (k : Answer ℕ) → SequenceFits ws s → UncountedFits ws (match_of n s k)
match_fits ws n s None h = tt
match_fits ws n s (Some k) h = go (eqb k 0) refl
  where
    go : (b : Bool) → eqb k 0 ≡ b → UncountedFits ws (match_of n s (Some k))
    go true p = rw p tt
    go false p = rw p h

-- the better of two matches, as the definition has it
better_found : (ws rest : List ℕ) (a b : Answer Uncounted) → uncounted_of ws rest (better_of a b) ≡ longer (uncounted_of ws rest a) (uncounted_of ws rest b)
better_found ws rest None None = refl
better_found ws rest None (Some g) = refl
better_found ws rest (Some f) None = refl
better_found ws rest (Some f) (Some g) = go (ltb f.taken g.taken) refl
  where
    a : Answer Uncounted
    a = Some f

    b : Answer Uncounted
    b = Some g

    go : (c : Bool) → ltb f.taken g.taken ≡ c → uncounted_of ws rest (better_of a b) ≡ longer (uncounted_of ws rest a) (uncounted_of ws rest b)
    go true p = rw p
    go false p = rw p

better_fits : (ws : List ℕ) (a b : Answer Uncounted) → UncountedFits ws a → UncountedFits ws b → UncountedFits ws (better_of a b)
better_fits ws None b p q = q
better_fits ws (Some f) None p q = p
better_fits ws (Some f) (Some g) p q = go (ltb f.taken g.taken) refl
  where
    go : (c : Bool) → ltb f.taken g.taken ≡ c → UncountedFits ws (better_of (Some f) (Some g))
    go true e = rw e q
    go false e = rw e p

longer-none : (o : Option Found) → longer none o ≡ o
longer-none none = refl
longer-none (some f) = refl

-- a sequence that starts neither with FE0F nor as the input does is no match
no_match : (n e c : ℕ) (seq inp : List ℕ) → c ≡ e → (first_of seq ≡ e → ⊥) → (first_of seq ≡ optional → ⊥) → on_some (takes seq (c ∷ inp)) (found n seq) none ≡ none
unfolding takes
no_match n e c [] inp s p q = refl
no_match n e c (x ∷ seq) inp s p q = rw (takes_none x c seq inp (λ z. p (z ∙ s)) q)

-- such sequences in front of others
find_skip : (e : ℕ) (inp : List ℕ) → 0 < length inp → get_or inp 0 0 ≡ e → (n : ℕ) (xs ys : List (List ℕ)) → Avoids e xs
    → find_from n (xs ++ ys) inp ≡ find_from (n + length xs) ys inp
unfolding find_from Avoids
find_skip e [] h s n xs ys a = absurd (omega arith)
find_skip e (c ∷ inp) h s n [] ys a = let z : n + 0 ≡ n = omega arith in rw z
find_skip e (c ∷ inp) h s n (x ∷ xs) ys a =
    let z : suc n + length xs ≡ n + suc (length xs) = omega arith in
    rw (no_match n e c x inp s a.0 a.1)
    (longer-none (find_from (suc n) (xs ++ ys) (c ∷ inp)) ∙ find_skip e (c ∷ inp) h s (suc n) xs ys a.2 ∙ rw z refl)

find_avoided : (e : ℕ) (inp : List ℕ) → 0 < length inp → get_or inp 0 0 ≡ e → (n : ℕ) (xs : List (List ℕ)) → Avoids e xs → find_from n xs inp ≡ none
unfolding find_from
find_avoided e inp h s n xs a = ap (λ (l : List (List ℕ)). find_from n l inp) (sym (append-nil xs)) ∙ find_skip e inp h s n xs [] a

neither : (a b : Bool) → (a || b) ≡ false → (a ≡ false) × (b ≡ false)
neither false b e = (refl, e)
neither true b e = absurd (false_true (sym e))

-- The records before `at` are looked at: `best` is their match, and those from there on are numbered from `number` on.
pub record Finder (part rest : List ℕ) (sorted : Bool) (best : Answer Uncounted) (number at : ℕ) : Type 0 where
  pub left : List (List ℕ)
  pub here : SequencesAt part at left
  pub few : number ≤ at
  pub so : find (sequences_in part) rest ≡ longer (uncounted_of part rest best) (find_from number left rest)
  pub fits : UncountedFits part best
  pub rise : sorted ≡ true → steady 0 left ≡ true

pub finder_start : (part rest : List ℕ) (sorted : Bool) (f g : Marks) → FirstsKnown part sorted f g → 0 < length rest → (s : Start) → Passing part (get_or rest 0 0) s
    → Finder part rest sorted None s.number s.place
unfolding find
finder_start part rest sorted f g k h s p =
    let w = p.from in
    let none_before : find (sequences_in part) rest ≡ find_from (0 + length w.passed) w.left rest
    = ap (λ (l : List (List ℕ)). find_from 0 l rest) w.split ∙ find_skip (get_or rest 0 0) rest h refl 0 w.passed w.left p.avoids in
    let count : 0 + length w.passed ≡ s.number = omega (arith, w.count) in
    record {
      left = w.left;
      here = w.walk;
      few = w.few;
      so = none_before ∙ rw count (sym (longer-none (find_from s.number w.left rest)));
      fits = tt;
      rise = λ t. steady-behind w.passed w.left (sym (ap (steady 0) w.split) ∙ k.firsts t);
    }

-- a match takes some of the rest
takes-some : (ws rest : List ℕ) (seqs : List (List ℕ)) (m : Uncounted) → uncounted_of ws rest (Some m) ≡ find seqs rest
    → (1 ≤ m.taken) × (m.taken ≤ length rest)
takes-some ws rest seqs m e =
    let t : Taken = record { length = m.taken; selectors = selectors_in (take m.taken rest) } in
    let b = find_best seqs rest (record { number = m.number; taken = t; stripped = strip (within m.sequence ws) }) (sym e) in
    (b.some-taken, (takes-fits _ rest t b.taken).inside)

module _ (part rest : List ℕ) (sorted : Bool) (best : Answer Uncounted) (number at : ℕ) (w : Finder part rest sorted best number at) where
  pub finder_here : at < length part → SequenceHere part at w.left
  finder_here h = sequences_step part at w.left w.here h

  finder_rise : (h : at < length part) → sorted ≡ true → steady 0 (finder_here h).rest ≡ true
  finder_rise h t = let x = finder_here h in steady_rest x.first x.rest (sym (ap (steady 0) x.split) ∙ w.rise t)

  pub finder_more : (h : at < length part) (k : Answer ℕ) → taken_of rest k ≡ takes (within (counted_at part at) part) rest
      → (m : Answer Uncounted) → m ≡ match_of number (counted_at part at) k → (b : Answer Uncounted) → b ≡ better_of best m
      → Finder part rest sorted b (number + 1) (counted_at part at).to
  unfolding find_from
  finder_more h k e m p b q =
      let s : Span = counted_at part at in
      let x = finder_here h in
      let one : uncounted_of part rest m ≡ on_some (takes x.first rest) (found number x.first) none =
      rw (p, match_found part rest number s k, e, sequence_items part at w.left x) in
      let split : find_from number w.left rest ≡ find_from number (x.first ∷ x.rest) rest = ap (λ (l : List (List ℕ)). find_from number l rest) x.split in
      let head : find_from number (x.first ∷ x.rest) rest ≡ longer (uncounted_of part rest m) (find_from (suc number) x.rest rest) = rw one in
      let step : find_from number w.left rest ≡ longer (uncounted_of part rest m) (find_from (suc number) x.rest rest) = split ∙ head in
      let both : uncounted_of part rest b ≡ longer (uncounted_of part rest best) (uncounted_of part rest m) = rw q (better_found part rest best m) in
      let fit : SequenceFits part s = record { ordered = omega arith; inside = x.fits; short = omega (arith, x.high) } in
      record {
        left = x.rest;
        here = x.next;
        few = omega (arith, w.few);
        so =
            w.so ∙ ap (longer (uncounted_of part rest best)) step
            ∙ sym (longer_assoc (uncounted_of part rest best) (uncounted_of part rest m) (find_from (suc number) x.rest rest))
            ∙ rw (← both, add-one number) refl;
        fits = rw (q, p) (better_fits part best (match_of number s k) w.fits (match_fits part number s k fit));
        rise = finder_rise h;
      }

  -- a record that is passed over
  pub finder_past : (h : at < length part) → 0 < length rest → (eqb (get_or part (at + 1) 0) (get_or rest 0 0) || eqb (get_or part (at + 1) 0) optional) ≡ false
      → Finder part rest sorted best (number + 1) (counted_at part at).to
  unfolding Avoids
  finder_past h i q =
      let x = finder_here h in
      let o = neither (eqb (get_or part (at + 1) 0) (get_or rest 0 0)) (eqb (get_or part (at + 1) 0) optional) q in
      let f : first_of x.first ≡ get_or part (at + 1) 0 = first_item part at w.left x in
      let step : find_from number (x.first ∷ x.rest) rest ≡ find_from (number + 1) x.rest rest
      = find_skip (get_or rest 0 0) rest i refl number (x.first ∷ []) x.rest (λ z. eqb-false _ _ o.0 (sym f ∙ z), λ z. eqb-false _ _ o.1 (sym f ∙ z), tt) in
      record {
        left = x.rest;
        here = x.next;
        few = omega (arith, w.few);
        so = w.so ∙ ap (longer (uncounted_of part rest best)) (ap (λ (l : List (List ℕ)). find_from number l rest) x.split ∙ step);
        fits = w.fits;
        rise = finder_rise h;
      }

  -- nothing is left that matches
  finder_done : find_from number w.left rest ≡ none → UncountedBy part rest (find (sequences_in part) rest) best
  finder_done e =
      let s : uncounted_of part rest best ≡ find (sequences_in part) rest = sym (w.so ∙ rw e refl) in
      record { same = s; fits = w.fits }

  pub finder_end : length part ≤ at → UncountedBy part rest (find (sequences_in part) rest) best
  unfolding find_from
  finder_end h =
      let e : w.left ≡ [] = sequences_end part at w.left w.here h in
      finder_done (rw e refl)

  -- behind a first item above the input's, none matches
  pub finder_above : at < length part → 0 < length rest → sorted ≡ true → get_or rest 0 0 < get_or part (at + 1) 0 → UncountedBy part rest (find (sequences_in part) rest) best
  finder_above h i t less =
      let x = finder_here h in
      let up : steady 0 (x.first ∷ x.rest) ≡ true = rw x.split at (w.rise t) in
      let a : Avoids (get_or rest 0 0) (x.first ∷ x.rest) = avoid_behind (get_or rest 0 0) x.first x.rest up (omega (arith, first_item part at w.left x, less)) in
      finder_done (ap (λ (l : List (List ℕ)). find_from number l rest) x.split ∙ find_avoided (get_or rest 0 0) rest i refl number (x.first ∷ x.rest) a)

-- in an empty rest nothing is found
find_empty : (seqs : List (List ℕ)) → find seqs [] ≡ none
find_empty seqs = go (find seqs []) refl
  where
    go : (o : Option Found) → find seqs [] ≡ o → find seqs [] ≡ none
    go none e = e
    go (some f) e =
        let b = find_best seqs [] f e in
        absurd (omega (arith, b.some-taken, (takes-fits _ [] f.taken b.taken).inside))

pub finder_empty : (part rest : List ℕ) → length rest ≡ 0 → UncountedBy part rest (find (sequences_in part) rest) None
finder_empty part [] h = record { same = sym (find_empty (sequences_in part)); fits = tt }
finder_empty part (c ∷ rest) h = absurd (omega arith)

-- the first item of a text, if there is one
pub first_none : (rest : List ℕ) → ◌≡◌ {A = Answer ℕ} None (slice_get rest 0) → length rest ≡ 0
first_none [] e = refl
first_none (c ∷ rest) e = absurd (none-some c e)

pub first_some : (rest : List ℕ) (e : ℕ) → ◌≡◌ {A = Answer ℕ} (Some e) (slice_get rest 0) → (0 < length rest) × (get_or rest 0 0 ≡ e)
first_some [] e h = absurd (none-some e (sym h))
first_some (c ∷ rest) e h = (omega arith, sym (same_Some e c h))

-- what is found in a section is found among the words
module _ (ws rest : List ℕ) (s : Span) (seqs : List (List ℕ)) (f : Fits ws s) where
  pub found-onward : (m : Answer Uncounted) → UncountedBy (within s ws) rest (find seqs rest) m → FoundBy ws rest (find seqs rest) (onward s.from rest m)
  found-onward None r = record { same = r.same; fits = tt; takes = tt }
  found-onward (Some m) r =
      let q : SequenceFits (within s ws) m.sequence = r.fits in
      let fit : Fits (within s ws) m.sequence = record { ordered = q.ordered; inside = q.inside } in
      let b = behind-fits ws s m.sequence f fit in
      record {
        same = rw (← within-within ws s m.sequence f fit) r.same;
        fits = record { ordered = b.ordered; inside = b.inside; short = omega (arith, q.short) };
        takes = takes-some (within s ws) rest seqs m r.same;
      }

-- the emoji section holds the sequences of the table
sequences_known : (part : List ℕ) (xs : List (List ℕ)) → sequences (length part) part ≡ some xs → sequences_in part ≡ xs
unfolding records_in
sequences_known part xs e = rw e

module _ (ws : List ℕ) (ix : Sections) (l : Laid ws ix) where
  pub emoji_known : sequences_in (within ix.emoji ws) ≡ (the_table ws).emoji
  emoji_known = sequences_known (within ix.emoji ws) (the_table ws).emoji (laid_reads ws ix l).emoji

  pub emoji-sequences : Sequences (within ix.emoji ws)
  emoji-sequences = record { parses = rw emoji_known (laid_reads ws ix l).emoji }

-- what is found in the emoji section is what the table has
module _ (ws : List ℕ) (ix : Sections) (l : Laid ws ix) (rest : List ℕ) (m : Answer Uncounted)
    (r : UncountedBy (within ix.emoji ws) rest (find (sequences_in (within ix.emoji ws)) rest) m) where
  section-found : FoundBy ws rest (find (the_table ws).emoji rest) (onward ix.emoji.from rest m)
  section-found =
      let p : UncountedBy (within ix.emoji ws) rest (find (the_table ws).emoji rest) m = rw (emoji_known ws ix l) at r in
      found-onward ws rest ix.emoji (the_table ws).emoji (laid-fits ws ix l).emoji m p

  pub found_at : (u : Uncounted) → m ≡ Some u
      → FoundBy ws rest (find (the_table ws).emoji rest) (Some (record { number = u.number; sequence = behind ix.emoji.from u.sequence; taken = u.taken; selectors = selectors_in (take u.taken rest) }))
  found_at u e = rw e at section-found

  pub found_nothing : m ≡ None → FoundBy ws rest (find (the_table ws).emoji rest) None
  found_nothing e = rw e at section-found
