-- Laws of refusal 16: of the walks over a text, over a list and to the list of a group.
use Prim.Native.Nat.{ℕ, zero, suc, ◌+◌, ◌-◌, ◌<◌, ◌≤◌}
use native.Mathlib.Omega.{arith}
use mathlib.Core.Path.{◌≡◌, refl, sym, ◌∙◌, ap}
use mathlib.Core.Bool.{Bool, true, false, not, ◌&&◌, ◌||◌, cond}
use mathlib.Core.List.{List, [], ◌∷◌}
use mathlib.Core.Option.{Option, none, some}
use lib.ListN.{length, get_or, take, drop, length-drop, drop_of_length-le}
use lib.Seq.{drop-drop}
use lib.Dec.{leb}
use Rattle.std.specs.Borrow.{Bor}
use Rattle.std.specs.List.{prefix_len}
use Rattle.lists.specs.Lists.{all, take_with, is_empty, is_some, and_then}
use Rattle.table.specs.declared.Span.{Span}
use Rattle.table.specs.declared.GroupRecord.{GroupRecord}
use Rattle.table.specs.Table.{Range, Group, Table}
use Rattle.table.specs.Layout.{most_flags, in_front, ranges, sequences, is_whitelisted, has_list, flags_fit, group, GroupEnd, group_end, groups, the_table}
use Rattle.table.specs.Spans.{within}
use Rattle.table.specs.Part.{records_in}
use Rattle.table.specs.GroupPart.{groups_in, GroupsPart, group_at, ListHere, ListAt}
use Rattle.table.proofs.Lookups.{drop-next, Walk, none-some, false_true, both, only_if-some, in_front-some, and_then-some}
use Rattle.table.proofs.ListSizes.{rest_of}
use Rattle.table.proofs.GroupWalks.{GroupWalk, group_start, group-stop, group_here_lem, group_here, group_on, list_here, group_uncounted}
use Rattle.sections.specs.declared.Sections.{Sections}
use Rattle.sections.specs.Laid.{Laid}
use Rattle.sections.proofs.SectionLaws.{laid_reads}
use Rattle.spelling.specs.Spelling.{is_mark}
use Rattle.compounds.specs.ListIs.{ListIs}
use Rattle.compounds.specs.Compounds.{marks_of, compounds, in_list, compounds_fit, one_fits, list_of}

-- the elements in front that pass, in std's words and in those of `lists`
pub prefix_with : (p : ℕ → Bool) (s : List ℕ) → prefix_len p s ≡ length (take_with p s)
prefix_with p [] = refl
prefix_with p (x ∷ s) = go (p x) (prefix_with p s)
  where
    go : (b : Bool) → prefix_len p s ≡ length (take_with p s) → cond b (1 + prefix_len p s) 0 ≡ length (cond b (x ∷ take_with p s) [])
    go true e = omega (arith, e)
    go false e = refl

pub marks-behind : (t : Table) (s : List ℕ) (at n : ℕ) → n ≡ length (marks_of t (take (length s - at) (drop at s))) → n ≡ length (marks_of t (drop at s))
marks-behind t s at n e = rw (rest_of s at) at e

-- The marks in front are so many codepoints from the front, and no compound sequence starts among them.
pub marks-taken : (t : Table) (s : List ℕ) → take (length (marks_of t s)) s ≡ marks_of t s
marks-taken t [] = refl
marks-taken t (c ∷ s) = go (is_mark t c) (marks-taken t s)
  where
    go : (b : Bool) → take (length (marks_of t s)) s ≡ marks_of t s → take (length (cond b (c ∷ marks_of t s) [])) (c ∷ s) ≡ cond b (c ∷ marks_of t s) []
    go true e = rw e
    go false e = refl

pub marks_few : (t : Table) (s : List ℕ) → length (marks_of t s) ≤ length s
marks_few t [] = omega arith
marks_few t (c ∷ s) = go (is_mark t c) (marks_few t s)
  where
    go : (b : Bool) → length (marks_of t s) ≤ length s → length (cond b (c ∷ marks_of t s) []) ≤ suc (length s)
    go true e = omega arith
    go false e = omega arith

pub marks_skipped : (t : Table) (s : List ℕ) → compounds t s ≡ compounds t (drop (length (marks_of t s)) s)
unfolding compounds
marks_skipped t [] = refl
marks_skipped t (c ∷ s) = go (is_mark t c) refl (marks_skipped t s)
  where
    go : (b : Bool) → is_mark t c ≡ b → compounds t s ≡ compounds t (drop (length (marks_of t s)) s)
        → compounds t (c ∷ s) ≡ compounds t (drop (length (cond b (c ∷ marks_of t s) [])) (c ∷ s))
    go true e h = rw e h
    go false e h = refl

-- One step of the walk over a text: what stands at a place, and the rest behind its marks.
abbrev fitting : Table → List (List ℕ) → List ℕ → Bool
fitting t list s = all (in_list list) (compounds t s)

fits_step : (t : Table) (list : List (List ℕ)) (c : ℕ) (s : List ℕ)
    → fitting t list (c ∷ s) ≡ one_fits t list (c ∷ marks_of t s) && fitting t list (drop (length (marks_of t s)) s)
unfolding compounds
fits_step t list c s = rw (← marks_skipped t s) (go (is_mark t c) (is_empty (marks_of t s)))
  where
    go : (a b : Bool) → all (in_list list) (cond (a || b) (compounds t s) ((c ∷ marks_of t s) ∷ compounds t s)) ≡ (a || b || in_list list (c ∷ marks_of t s)) && fitting t list s
    go true b = refl
    go false true = refl
    go false false = refl

module _ (t : Table) (list : List (List ℕ)) (s : List ℕ) where
  pub fits_start : Walk (fitting t list) s 0
  fits_start = record { inside = omega arith; same = refl }

  module _ (i n : ℕ) (w : Walk (fitting t list) s i) (h : i < length s) (e : n ≡ length (marks_of t (drop (i + 1) s))) where
    -- the sequence that stands here
    one_here : take (i + 1 + n - i) (drop i s) ≡ get_or s i 0 ∷ marks_of t (drop (i + 1) s)
    one_here =
        let k : i + 1 + n - i ≡ suc n = omega arith in
        rw (k, drop-next s i h, e, marks-taken t (drop (i + 1) s))

    pub one-some : 0 < length (take (i + 1 + n - i) (drop i s))
    one-some = rw one_here (omega arith)

    pub one_inside : i + 1 + n ≤ length s
    one_inside = omega (arith, marks_few t (drop (i + 1) s), length-drop (i + 1) s)

    step : fitting t list s ≡ one_fits t list (take (i + 1 + n - i) (drop i s)) && fitting t list (drop (i + 1 + n) s)
    step =
        let here : fitting t list s ≡ fitting t list (get_or s i 0 ∷ drop (i + 1) s) = rw (← drop-next s i h) w.same in
        here ∙ fits_step t list (get_or s i 0) (drop (i + 1) s) ∙ rw (one_here, ← drop-drop n (i + 1) s, e)

    pub fits_broken : one_fits t list (take (i + 1 + n - i) (drop i s)) ≡ false → false ≡ fitting t list s
    fits_broken b = rw (step, b)

    pub fits_on : one_fits t list (take (i + 1 + n - i) (drop i s)) ≡ true → Walk (fitting t list) s (i + 1 + n)
    fits_on b = record { inside = one_inside; same = step ∙ rw b }

  pub fits_done : (i : ℕ) → Walk (fitting t list) s i → length s ≤ i → true ≡ fitting t list s
  unfolding compounds
  fits_done i w h = rw (w.same, drop_of_length-le s h)

-- One character and the marks behind it, test by test.
module _ (t : Table) (list : List (List ℕ)) (s : List ℕ) where
  pub one_alone : length s ≡ 1 → true ≡ one_fits t list s
  one_alone h = go s h
    where
      go : (v : List ℕ) → length v ≡ 1 → true ≡ one_fits t list v
      go [] k = absurd (omega arith)
      go (c ∷ []) k = rw (either (is_mark t c))
        where
          either : (b : Bool) → b || true ≡ true
          either true = refl
          either false = refl
      go (c ∷ d ∷ v) k = absurd (omega arith)

  pub one_mark : 0 < length s → is_mark t (get_or s 0 0) ≡ true → true ≡ one_fits t list s
  one_mark h e = rw (drop-next s 0 h, e)

  pub one-asked : 0 < length s → (length s ≡ 1 → ⊥) → is_mark t (get_or s 0 0) ≡ false → in_list list s ≡ one_fits t list s
  one-asked h k e = go s h k e
    where
      go : (v : List ℕ) → 0 < length v → (length v ≡ 1 → ⊥) → is_mark t (get_or v 0 0) ≡ false → in_list list v ≡ one_fits t list v
      go [] i j f = absurd (omega arith)
      go (c ∷ []) i j f = absurd (j refl)
      go (c ∷ d ∷ v) i j f = rw f

-- The walk to the list of a group: it is that of the groups left, of another number.
abbrev pub ListLeft : List ℕ → ℕ → ℕ → List Group → Type 0
ListLeft part number n left = list_of (groups_in part) number ≡ list_of left n

module _ (part : List ℕ) (number : ℕ) where
  pub to_start : GroupsPart part → GroupWalk part 0 0 (ListLeft part number number)
  to_start g = group_start part (ListLeft part number number) g refl

  module _ (n at : ℕ) (w : GroupWalk part 0 at (ListLeft part number n)) where
    pub to_stop : length part ≤ at → list_of (groups_in part) number ≡ none
    unfolding list_of
    to_stop h = rw (group-stop part 0 at (ListLeft part number n) w h)

    module _ (h : at < length part) (v : GroupRecord) (e : v ≡ group_at part at) where
      pub to_here : n ≡ 0 → ListHere part v.listed v.list (list_of (groups_in part) number)
      unfolding list_of
      to_here z =
          let here = group_here_lem part 0 at (ListLeft part number n) w h in
          let is : list_of (groups_in part) number ≡ here.list = w.so ∙ ap (λ (gs : List Group). list_of gs n) here.split ∙ first n z (group_here part 0 at (ListLeft part number n) w h) here.rest in
          rw is (list_here part 0 at (ListLeft part number n) w h v e)
        where
          first : (k : ℕ) → k ≡ 0 → (g : Group) (gs : List Group) → list_of (g ∷ gs) k ≡ g.sequences
          first zero i g gs = refl
          first (suc k) i g gs = absurd (omega arith)

      pub to_on : (n ≡ 0 → ⊥) → GroupWalk part 0 v.next (ListLeft part number (n - 1))
      unfolding list_of
      to_on z =
          group_uncounted part (0 + 1) v.next (ListLeft part number (n - 1))
          (group_on part 0 at (ListLeft part number n) w h v e (ListLeft part number (n - 1)) (λ rest q. q ∙ less n z rest))
        where
          less : (k : ℕ) → (k ≡ 0 → ⊥) → (rest : List Group) → list_of (group_here part 0 at (ListLeft part number n) w h ∷ rest) k ≡ list_of rest (k - 1)
          less zero i rest = absurd (i refl)
          less (suc k) i rest = let j : suc k - 1 ≡ k = omega arith in rw j

-- the list of a group, by its place
pub list-told : (ws : List ℕ) (list : Option (List (List ℕ))) (s : Span) (found : Bor (List ℕ)) → found.now ≡ within s ws → ListAt ws s list → ListIs found.now list
list-told ws list s found e h = rw e (record { holds = h.holds; same = h.same })

-- a list permits the text, or there is none
pub fits_unasked : (white b : Bool) → not white ≡ true → true ≡ (not white || b)
fits_unasked true b e = absurd (false_true e)
fits_unasked false b e = refl

pub fits-asked : (white b : Bool) → not white ≡ false → b ≡ (not white || b)
fits-asked true b e = refl
fits-asked false b e = absurd (false_true (sym e))

module _ (t : Table) (list : Option (List (List ℕ))) (text : List ℕ) where
  pub fits_unlisted : list ≡ none → true ≡ compounds_fit t list text
  unfolding compounds_fit
  fits_unlisted e = rw e

  pub fits-listed : (words : List ℕ) → ListIs words list → all (in_list (records_in sequences words)) (compounds t text) ≡ compounds_fit t list text
  unfolding compounds_fit
  fits-listed words l = rw l.same

-- "flag 4, allowed only beside flag 2": a group with a list is whitelisted, in every table that is read from words
abbrev pub listed_white : Group → Bool
listed_white g = g.whitelisted || not (is_some g.sequences)

end_white : (b white : Bool) (ws : List ℕ) (e : GroupEnd) → (white || not b) ≡ true → group_end b ws ≡ some e → (white || not (is_some e.sequences)) ≡ true
unfolding group_end
end_white false white ws e h k = let none_there : e.sequences ≡ none = cc in rw none_there (either white)
  where
    either : (a : Bool) → (a || true) ≡ true
    either true = refl
    either false = refl
end_white true true ws e h k = refl
end_white true false ws e h k = absurd (false_true h)

pub groups_white : (k : ℕ) (ws : List ℕ) (gs : List Group) → groups k ws ≡ some gs → all listed_white gs ≡ true
unfolding groups
groups_white zero [] gs h = let e : gs ≡ [] = cc in rw e
groups_white zero (w ∷ ws) gs h = absurd (none-some gs h)
groups_white (suc k) [] gs h = let e : gs ≡ [] = cc in rw e
groups_white (suc k) (f ∷ []) gs h = absurd (none-some gs h)
groups_white (suc k) (f ∷ n ∷ ws) gs h =
    let last : List Range → GroupEnd → Option (List Group) = λ rs e. in_front (group f rs e.sequences) (groups k e.rest) in
    let then : List Range → Option (List Group) = λ rs. and_then (group_end (has_list f) (drop n ws)) (last rs) in
    let p = only_if-some (flags_fit f && leb n (length ws)) (and_then (ranges (take n ws)) then) gs h in
    let flags : flags_fit f ≡ true = (both (flags_fit f) (leb n (length ws)) p.0).0 in
    let white : (is_whitelisted f || not (has_list f)) ≡ true = (both (leb f most_flags) (is_whitelisted f || not (has_list f)) flags).1 in
    let q = and_then-some (ranges (take n ws)) then gs p.1 in
    let u = and_then-some (group_end (has_list f) (drop n ws)) (last q.0) gs q.2 in
    let r = in_front-some (group f q.0 u.0.sequences) (groups k u.0.rest) gs u.2 in
    rw (r.2, end_white (has_list f) (is_whitelisted f) (drop n ws) u.0 white u.1, groups_white k u.0.rest r.0 r.1)

pub laid_white : (ws : List ℕ) (ix : Sections) → Laid ws ix → all listed_white (the_table ws).groups ≡ true
laid_white ws ix l = groups_white _ _ _ (laid_reads ws ix l).groups

-- of such a group nothing is asked but where it is whitelisted
pub white_asked : (t : Table) (g : Group) (s : List ℕ) → listed_white g ≡ true → (not g.whitelisted || compounds_fit t g.sequences s) ≡ compounds_fit t g.sequences s
unfolding compounds_fit
white_asked t g s h = go g.whitelisted g.sequences h
  where
    go : (b : Bool) (list : Option (List (List ℕ))) → (b || not (is_some list)) ≡ true → (not b || compounds_fit t list s) ≡ compounds_fit t list s
    go true list e = refl
    go false none e = refl
    go false (some x) e = absurd (false_true e)
