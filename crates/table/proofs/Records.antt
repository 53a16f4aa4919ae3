-- A walk over the records of a section: what stands at a place where words are left, and that none are left where no record is.
use Prim.Native.Nat.{ℕ, zero, suc, ◌+◌, ◌-◌, ◌<◌, ◌≤◌}
use native.Mathlib.Omega.{arith}
use mathlib.Core.Path.{◌≡◌, refl, sym, ◌∙◌, ap}
use mathlib.Core.Bool.{Bool, true, false, ◌&&◌}
use mathlib.Core.List.{List, [], ◌∷◌}
use mathlib.Core.Option.{Option, none, some, map}
use lib.ListN.{length, get_or, take, drop, length-take, length-drop, drop_of_length-le}
use lib.Seq.{drop-drop, take-take}
use lib.Dec.{leb}
use borrow.Author.Tests.{leb-true, leb-false, le-leb}
use Rattle.std.specs.Prelude.{Some}
use Rattle.lists.specs.Lists.{and_then}
use Rattle.table.specs.declared.Span.{Span}
use Rattle.table.specs.Table.{Range, Headed, Group, Whole}
use Rattle.table.specs.Layout.{
  most_items,
  most_sequences,
  least_run,
  most_run,
  in_front,
  ranges,
  count_fits,
  headed,
  sequences,
  has_list,
  flags_fit,
  group,
  Sequences,
  behind_one,
  runs,
  list_part,
  GroupEnd,
  with_list,
  group_end,
  groups,
  Tail,
  confused_part,
  wholes,
}
use Rattle.table.specs.Spans.{within, Fits}
use Rattle.table.specs.Lookup.{holds}
use Rattle.table.specs.Part.{RecordsAt, HeadedAt, SequencesAt, GroupsAt, WholesAt, HeadedHere, SequenceHere, confused_at, WholeHere, records_in, in_pairs, counted_at}
use Rattle.table.specs.GroupPart.{size_in, length_in, list_size, list_length, end_size, list_at, ListHere, GroupHere}
use Rattle.table.proofs.Lookups.{none-some, pairs-ranges, both, only_if-some, in_front-some, and_then-some, drop-next, drop-two, drop-take}
use Rattle.table.proofs.Fuels.{sequences-next}

-- where the count of a record is in its range
pub record CountFits (most n : ℕ) (ws : List ℕ) : Type 0 where
  pub low : 1 ≤ n
  pub high : n ≤ most
  pub room : n ≤ length ws

pub count_fits_lem : (most n : ℕ) (ws : List ℕ) → count_fits most n ws ≡ true → CountFits most n ws
count_fits_lem most n ws e =
    let p = both (leb 1 n && leb n most) (leb n (length ws)) e in
    let q = both (leb 1 n) (leb n most) p.0 in
    record { low = leb-true _ _ q.0; high = leb-true _ _ q.1; room = leb-true _ _ p.1 }

module _ {X : Type 0} (reader : ℕ → List ℕ → Option (List X)) (part : List ℕ) where
  -- a section that parses, at its start
  pub records_start : (xs : List X) → reader (length part) part ≡ some xs → RecordsAt reader part 0 xs
  records_start xs e = record { inside = omega arith; steps = length part; parses = e }

  -- at the end no record is left
  pub records_end : (at : ℕ) (xs : List X) → ((k : ℕ) → reader k [] ≡ some []) → RecordsAt reader part at xs → length part ≤ at → xs ≡ []
  records_end at xs none_left w h =
      let e : reader w.steps [] ≡ some xs = rw (drop_of_length-le part h) at w.parses in
      cc (none_left w.steps)

  -- where one word alone is no record, a record has two
  two_left : (at : ℕ) (xs : List X) → ((k a : ℕ) → reader k (a ∷ []) ≡ none) → RecordsAt reader part at xs → at < length part → at + 2 ≤ length part
  two_left at xs lone w h = go (leb (at + 2) (length part)) refl
    where
      go : (b : Bool) → leb (at + 2) (length part) ≡ b → at + 2 ≤ length part
      go true e = leb-true _ _ e
      go false e =
          let i : length part < at + 2 = leb-false _ _ e in
          let j : length part ≤ at + 1 = omega arith in
          let l : reader w.steps (get_or part at 0 ∷ []) ≡ some xs = rw (drop-next part at h, drop_of_length-le part j) at w.parses in
          absurd (none-some xs (sym (lone w.steps (get_or part at 0)) ∙ l))

module _ (part : List ℕ) (at : ℕ) (xs : List (List ℕ)) where
  pub sequences_end : SequencesAt part at xs → length part ≤ at → xs ≡ []
  unfolding sequences
  sequences_end = records_end sequences part at xs ends
    where
      ends : (k : ℕ) → sequences k [] ≡ some []
      ends zero = refl
      ends (suc k) = refl

  pub sequences_step : SequencesAt part at xs → at < length part → SequenceHere part at xs
  unfolding sequences
  sequences_step w h = go w.steps (rw (drop-next part at h) at w.parses)
    where
      go : (k : ℕ) → sequences k (get_or part at 0 ∷ drop (at + 1) part) ≡ some xs → SequenceHere part at xs
      go zero e = absurd (none-some xs e)
      go (suc k) e =
          let n : ℕ = get_or part at 0 in
          let ws : List ℕ = drop (at + 1) part in
          let p = only_if-some (count_fits most_items n ws) (in_front (take n ws) (sequences k (drop n ws))) xs e in
          let q = in_front-some (take n ws) (sequences k (drop n ws)) xs p.1 in
          let f = count_fits_lem most_items n ws p.0 in
          let room : n ≤ length part - (at + 1) = simp length-drop at f.room in
          record {
            first = take n ws;
            rest = q.0;
            split = q.2;
            items = refl;
            low = f.low;
            high = f.high;
            fits = omega arith;
            next = record { inside = omega arith; steps = k; parses = rw (← drop-drop n (at + 1) part) q.1 };
          }

module _ (most : ℕ) (part : List ℕ) (at : ℕ) (xs : List Headed) where
  pub headed_end : HeadedAt most part at xs → length part ≤ at → xs ≡ []
  unfolding headed
  headed_end = records_end (λ k. headed k most) part at xs ends
    where
      ends : (k : ℕ) → headed k most [] ≡ some []
      ends zero = refl
      ends (suc k) = refl

  pub headed_step : HeadedAt most part at xs → at < length part → HeadedHere most part at xs
  unfolding headed
  headed_step w h =
      let i : at + 2 ≤ length part = two_left (λ k. headed k most) part at xs lone w h in
      go i w.steps (rw (drop-two part at (omega arith)) at w.parses)
    where
      lone : (k a : ℕ) → headed k most (a ∷ []) ≡ none
      lone zero a = refl
      lone (suc k) a = refl

      go : at + 2 ≤ length part → (k : ℕ) → headed k most (get_or part at 0 ∷ get_or part (at + 1) 0 ∷ drop (at + 2) part) ≡ some xs → HeadedHere most part at xs
      go i zero e = absurd (none-some xs e)
      go i (suc k) e =
          let n : ℕ = get_or part (at + 1) 0 in
          let ws : List ℕ = drop (at + 2) part in
          let r : Headed = record { head = get_or part at 0; items = take n ws } in
          let p = only_if-some (count_fits most n ws) (in_front r (headed k most (drop n ws))) xs e in
          let q = in_front-some r (headed k most (drop n ws)) xs p.1 in
          let f = count_fits_lem most n ws p.0 in
          let room : n ≤ length part - (at + 2) = simp length-drop at f.room in
          record {
            first = r;
            rest = q.0;
            split = q.2;
            head = refl;
            items = refl;
            low = f.low;
            high = f.high;
            fits = omega arith;
            next = record { inside = omega arith; steps = k; parses = rw (← drop-drop n (at + 2) part) q.1 };
          }

-- So many sequences at the front of the words: as the records of a section, and what is behind them.
record RunsRead (ws : List ℕ) (q : Sequences) : Type 0 where
  short : length q.rest ≤ length ws
  reads : sequences (length (take (length ws - length q.rest) ws)) (take (length ws - length q.rest) ws) ≡ some q.list
  rest : drop (length ws - length q.rest) ws ≡ q.rest

runs_front : (n : ℕ) (ws : List ℕ) (q : Sequences) → 1 ≤ n → n ≤ most_items → n ≤ length ws → RunsRead (drop n ws) q → RunsRead (n ∷ ws) (behind_one (take n ws) q)
runs_front n ws q low high room r =
    let d : ℕ = length (drop n ws) - length q.rest in
    let l : length (drop n ws) ≡ length ws - n = length-drop n ws in
    let size : suc (length ws) - length q.rest ≡ suc (n + d) = omega (arith, r.short) in
    let x : List ℕ = take (n + d) ws in
    let first : take n x ≡ take n ws = take-take n (n + d) ws (omega arith) in
    let less : n + d - n ≡ d = omega arith in
    let later : drop n x ≡ take d (drop n ws) = rw (drop-take n (n + d) ws, less) in
    let long : length x ≡ n + d = simp length-take (omega (arith, r.short)) in
    let fits : count_fits most_items n x ≡ true = rw (le-leb 1 n low, le-leb n most_items high, le-leb n (length x) (omega arith)) in
    let reads : sequences (length (n ∷ x)) (n ∷ x) ≡ some (take n ws ∷ q.list) = sequences-next n x ∙ rw (fits, first, later, r.reads) in
    let rest : drop (n + d) ws ≡ q.rest = sym (drop-drop d n ws) ∙ r.rest in
    record { short = omega (arith, r.short); reads = rw size reads; rest = rw size rest }

map-some : {A B : Type 0} (f : A → B) (o : Option A) (y : B) → map f o ≡ some y → (a : A) × (o ≡ some a) × (y ≡ f a)
map-some f none y e = absurd (none-some y e)
map-some f (some a) y e = (a, refl, cc)

runs-read : (k : ℕ) (ws : List ℕ) (q : Sequences) → runs k ws ≡ some q → RunsRead ws q
unfolding runs sequences
runs-read zero ws q e =
    let r : q ≡ record { list = []; rest = ws } = cc in
    let z : length ws - length ws ≡ 0 = omega arith in
    rw r (start z)
  where
    start : length ws - length ws ≡ 0 → RunsRead ws (record { list = []; rest = ws })
    start z = record { short = omega arith; reads = rw z; rest = rw z }
runs-read (suc k) [] q e = absurd (none-some q e)
runs-read (suc k) (n ∷ ws) q e =
    let p = only_if-some (leb least_run n && leb n most_run && leb n (length ws)) (map (behind_one (take n ws)) (runs k (drop n ws))) q e in
    let m = map-some (behind_one (take n ws)) (runs k (drop n ws)) q p.1 in
    let b = both (leb least_run n && leb n most_run) (leb n (length ws)) p.0 in
    let c = both (leb least_run n) (leb n most_run) b.0 in
    let low : least_run ≤ n = leb-true _ _ c.0 in
    let high : n ≤ most_run = leb-true _ _ c.1 in
    rw m.2 (runs_front n ws m.0 (omega arith) (omega arith) (leb-true _ _ b.1) (runs-read k (drop n ws) m.0 m.1))

-- the words of the list whose count stands at `at`
abbrev list_span : List ℕ → ℕ → Span
list_span part at = record { from = at + 1; to = at + list_size (drop at part) }

-- that list, and what is behind it
record ListRead (part : List ℕ) (at : ℕ) (q : Sequences) : Type 0 where
  fits : Fits part (list_span part at)
  reads : sequences (length (within (list_span part at) part)) (within (list_span part at) part) ≡ some q.list
  rest : drop (list_span part at).to part ≡ q.rest

list_read : (part : List ℕ) (at : ℕ) (q : Sequences) → list_part (drop at part) ≡ some q → ListRead part at q
unfolding list_part list_size
list_read part at q e = go (leb (at + 1) (length part)) refl
  where
    go : (b : Bool) → leb (at + 1) (length part) ≡ b → ListRead part at q
    go false f =
        let i : length part < at + 1 = leb-false _ _ f in
        let j : length part ≤ at = omega arith in
        let l : list_part [] ≡ some q = rw (drop_of_length-le part j) at e in
        absurd (none-some q l)
    go true f =
        let i : at + 1 ≤ length part = leb-true _ _ f in
        let j : at < length part = omega arith in
        let n : ℕ = get_or part at 0 in
        let ws : List ℕ = drop (at + 1) part in
        let l : list_part (n ∷ ws) ≡ some q = rw (drop-next part at j) at e in
        let r = runs-read n ws q (only_if-some (leb n most_sequences) (runs n ws) q l).1 in
        let d : ℕ = length ws - length q.rest in
        let long : length ws ≡ length part - (at + 1) = length-drop (at + 1) part in
        let size : list_size (drop at part) ≡ suc d = rw (e, drop-next part at j) (omega (arith, r.short)) in
        let wide : at + suc d - (at + 1) ≡ d = omega arith in
        let to : at + suc d ≡ at + 1 + d = omega arith in
        record {
          fits = rw size (record { ordered = omega arith; inside = omega (arith, r.short) });
          reads = rw (size, wide) r.reads;
          rest = rw (size, to) (sym (drop-drop d (at + 1) part) ∙ r.rest);
        }

-- what follows the pairs of a group
record EndHere (part : List ℕ) (at : ℕ) (b : Bool) (e : GroupEnd) : Type 0 where
  listed : ListHere part b (list_at part at b) e.sequences
  inside : at + end_size b (drop at part) ≤ length part
  rest : drop (at + end_size b (drop at part)) part ≡ e.rest

end_here : (part : List ℕ) (at : ℕ) (b : Bool) (e : GroupEnd) → at ≤ length part → group_end b (drop at part) ≡ some e → EndHere part at b e
unfolding group_end sequences records_in list_length list_size
end_here part at false e i h =
    let same : e ≡ record { sequences = none; rest = drop at part } = cc in
    let a : at + 0 ≡ at = omega arith in
    rw same (record { listed = (refl, refl); inside = omega arith; rest = rw a })
end_here part at true e i h =
    let m = map-some with_list (list_part (drop at part)) e h in
    let r = list_read part at m.0 m.1 in
    let ws : List ℕ = drop at part in
    let n : list_size ws ≡ length ws - length m.0.rest = ap (λ (o : Option Sequences). size_in ws o) m.1 in
    let l : list_length ws ≡ Some (list_size ws) = ap (λ (o : Option Sequences). length_in ws o) m.1 ∙ ap Some (sym n) in
    rw m.2 (record { listed = rw l (refl, record { fits = r.fits; holds = rw r.reads; same = rw r.reads }); inside = r.fits.inside; rest = r.rest })

-- the words behind a group
pub end_rest : (b : Bool) (ws : List ℕ) (e : GroupEnd) → group_end b ws ≡ some e → drop (end_size b ws) ws ≡ e.rest
end_rest b ws e h = let z : 0 + end_size b ws ≡ end_size b ws = omega arith in rw z at (end_here ws 0 b e (omega arith) h).rest

module _ (part : List ℕ) (at : ℕ) (xs : List Group) where
  pub groups_end : GroupsAt part at xs → length part ≤ at → xs ≡ []
  unfolding groups
  groups_end = records_end groups part at xs ends
    where
      ends : (k : ℕ) → groups k [] ≡ some []
      ends zero = refl
      ends (suc k) = refl

  pub groups_step : GroupsAt part at xs → at < length part → GroupHere part at xs
  unfolding groups
  groups_step w h =
      let i : at + 2 ≤ length part = two_left groups part at xs lone w h in
      go i w.steps (rw (drop-two part at (omega arith)) at w.parses)
    where
      lone : (k a : ℕ) → groups k (a ∷ []) ≡ none
      lone zero a = refl
      lone (suc k) a = refl

      go : at + 2 ≤ length part → (k : ℕ) → groups k (get_or part at 0 ∷ get_or part (at + 1) 0 ∷ drop (at + 2) part) ≡ some xs → GroupHere part at xs
      go i zero e = absurd (none-some xs e)
      go i (suc k) e =
          let f : ℕ = get_or part at 0 in
          let n : ℕ = get_or part (at + 1) 0 in
          let ws : List ℕ = drop (at + 2) part in
          let last : List Range → GroupEnd → Option (List Group) = λ rs g. in_front (group f rs g.sequences) (groups k g.rest) in
          let then : List Range → Option (List Group) = λ rs. and_then (group_end (has_list f) (drop n ws)) (last rs) in
          let p = only_if-some (flags_fit f && leb n (length ws)) (and_then (ranges (take n ws)) then) xs e in
          let t = both (flags_fit f) (leb n (length ws)) p.0 in
          let q = and_then-some (ranges (take n ws)) then xs p.1 in
          let u = and_then-some (group_end (has_list f) (drop n ws)) (last q.0) xs q.2 in
          let r = in_front-some (group f q.0 u.0.sequences) (groups k u.0.rest) xs u.2 in
          let room : n ≤ length part - (at + 2) = simp length-drop at (leb-true n (length ws) t.1) in
          let to : at + 2 + n ≡ at + 1 + 1 + n = omega arith in
          let behind : group_end (has_list f) (drop (at + 1 + 1 + n) part) ≡ some u.0 = rw (← to, ← drop-drop n (at + 2) part) u.1 in
          let v = end_here part (at + 1 + 1 + n) (has_list f) u.0 (omega arith) behind in
          record {
            pairs = q.0;
            list = u.0.sequences;
            rest = r.0;
            split = r.2;
            flags = t.0;
            parses = q.1;
            fits = omega arith;
            listed = v.listed;
            ends = v.inside;
            next = record { inside = v.inside; steps = k; parses = rw v.rest r.1 };
          }

-- the confused items whose count stands at `at`, and what is behind them
record TailHere (part : List ℕ) (at : ℕ) (t : Tail) : Type 0 where
  confused : t.confused ≡ take (get_or part at 0) (drop (at + 1) part)
  rest : t.rest ≡ drop (at + 1 + get_or part at 0) part
  fits : at + 1 + get_or part at 0 ≤ length part

tail_here : (part : List ℕ) (at : ℕ) (t : Tail) → confused_part (drop at part) ≡ some t → TailHere part at t
unfolding confused_part
tail_here part at t e = go (leb (at + 1) (length part)) refl
  where
    go : (b : Bool) → leb (at + 1) (length part) ≡ b → TailHere part at t
    go false f =
        let i : length part < at + 1 = leb-false _ _ f in
        let j : length part ≤ at = omega arith in
        let l : confused_part [] ≡ some t = rw (drop_of_length-le part j) at e in
        absurd (none-some t l)
    go true f =
        let i : at + 1 ≤ length part = leb-true _ _ f in
        let j : at < length part = omega arith in
        let n : ℕ = get_or part at 0 in
        let ws : List ℕ = drop (at + 1) part in
        let l : confused_part (n ∷ ws) ≡ some t = rw (drop-next part at j) at e in
        let p = only_if-some (leb n (length ws)) (some (record { confused = take n ws; rest = drop n ws })) t l in
        let same : t ≡ record { confused = take n ws; rest = drop n ws } = cc p.1 in
        let room : n ≤ length part - (at + 1) = simp length-drop at (leb-true n (length ws) p.0) in
        record { confused = rw same; rest = rw same (drop-drop n (at + 1) part); fits = omega arith }

module _ (part : List ℕ) (at : ℕ) (xs : List Whole) where
  pub wholes_end : WholesAt part at xs → length part ≤ at → xs ≡ []
  unfolding wholes
  wholes_end = records_end wholes part at xs ends
    where
      ends : (k : ℕ) → wholes k [] ≡ some []
      ends zero = refl
      ends (suc k) = refl

  pub wholes_step : WholesAt part at xs → at < length part → WholeHere part at xs
  unfolding wholes confused_part
  wholes_step w h = go w.steps (rw (drop-next part at h) at w.parses)
    where
      go : (k : ℕ) → wholes k (get_or part at 0 ∷ drop (at + 1) part) ≡ some xs → WholeHere part at xs
      go zero e = absurd (none-some xs e)
      go (suc k) e =
          let n : ℕ = get_or part at 0 in
          let ws : List ℕ = drop (at + 1) part in
          let then : Tail → Option (List Whole) = λ c. in_front (record { valid = take n ws; confused = c.confused }) (wholes k c.rest) in
          let p = only_if-some (leb n (length ws)) (and_then (confused_part (drop n ws)) then) xs e in
          let q = and_then-some (confused_part (drop n ws)) then xs p.1 in
          let t : Tail = q.0 in
          let r = in_front-some (record { valid = take n ws; confused = t.confused }) (wholes k t.rest) xs q.2 in
          let here : confused_part (drop (confused_at part at) part) ≡ some t = rw (← drop-drop n (at + 1) part) q.1 in
          let v = tail_here part (confused_at part at) t here in
          record {
            first = record { valid = take n ws; confused = t.confused };
            rest = r.0;
            split = r.2;
            valid = refl;
            confused = v.confused;
            fits = v.fits;
            next = record { inside = v.fits; steps = k; parses = rw (← v.rest) r.1 };
          }

-- a part given by its start and its length
pub within_count : (ws : List ℕ) (a n : ℕ) → within (record { from = a; to = a + n }) ws ≡ take n (drop a ws)
within_count ws a n = let e : a + n - a ≡ n = omega arith in rw e

-- What stands at a place, by the places of the items: the code takes `counted_at` there.
module _ (part : List ℕ) (at : ℕ) (xs : List (List ℕ)) (h : SequenceHere part at xs) where
  pub sequence-fits : Fits part (counted_at part at)
  sequence-fits = record { ordered = omega arith; inside = h.fits }

  pub sequence_items : within (counted_at part at) part ≡ h.first
  sequence_items = within_count part (at + 1) (get_or part at 0) ∙ sym h.items

module _ (part : List ℕ) (at : ℕ) (xs : List Group) (h : GroupHere part at xs) where
  pub group-fits : Fits part (counted_at part (at + 1))
  group-fits = record { ordered = omega arith; inside = omega (arith, h.fits) }

  pub group_reads : ranges (within (counted_at part (at + 1)) part) ≡ some h.pairs
  group_reads =
      let n : ℕ = get_or part (at + 1) 0 in
      let two : at + 1 + 1 ≡ at + 2 = omega arith in
      let same : within (counted_at part (at + 1)) part ≡ take n (drop (at + 2) part)
      = within_count part (at + 1 + 1) n ∙ ap (λ (k : ℕ). take n (drop k part)) two in
      ap ranges same ∙ h.parses

  -- whether the group at `at` holds c is asked of its pairs
  pub group-holds : (c : ℕ) → in_pairs c (within (counted_at part (at + 1)) part) ≡ holds (group (get_or part at 0) h.pairs h.list) c
  group-holds c = pairs-ranges c _ h.pairs group_reads
