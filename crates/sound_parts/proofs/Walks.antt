-- Walks over the words of a section that ask something of every entry, or look for one.
use Prim.Native.Nat.{ℕ, zero, suc, ◌+◌, ◌-◌, ◌/◌, ◌<◌, ◌≤◌}
use native.Mathlib.Omega.{arith}
use mathlib.Core.Path.{◌≡◌, refl, sym, ◌∙◌, ap}
use mathlib.Core.Bool.{Bool, true, false, ◌&&◌}
use mathlib.Core.List.{List, [], ◌∷◌}
use mathlib.Core.Option
use mathlib.Core.Option.{Option, none, some}
use lib.ListN.{length, get_or, take, drop, length-drop}
use lib.Seq.{take_all}
use lib.Dec.{leb}
use Rattle.std.specs.List.{list_all}
use Rattle.std.specs.Simd.{first_chunks}
use Rattle.lists.specs.Lists.{all, is_some}
use Rattle.table.specs.declared.Span.{Span}
use Rattle.table.specs.declared.GroupRecord.{GroupRecord}
use Rattle.table.specs.Table.{Range, ClassRange, Headed, Group}
use Rattle.table.specs.Layout.{only_if, in_front, count_fits, headed, ranges, class_ranges, sequences, has_list, group, groups, most_class, most_items}
use Rattle.table.specs.Spans.{within, Fits}
use Rattle.table.specs.Part.{RecordsAt, HeadedAt, GroupsAt, HeadedHere, counted_at, records_in}
use Rattle.table.specs.GroupPart.{group_at, ListHere, GroupHere}
use Rattle.table.proofs.Lookups.{only_if-some, in_front-some}
use Rattle.table.proofs.Records.{records_start, headed_step, headed_end, groups_step, groups_end, within_count, group-fits, group_reads}
use Rattle.sound_parts.specs.Parts.{all_pairs, all_triples, Holds, as_headed, list_records, ListHolds}
use Rattle.std.specs.declared.option.Option as std
use Rattle.std.specs.Prelude.{Some, None}

-- What the words of pairs and of triples say, and what the entries say that they hold.
pub pairs-all : (p : ℕ → ℕ → Bool) (ws : List ℕ) (rs : List Range) → ranges ws ≡ some rs → all_pairs p ws ≡ all (λ (r : Range). p r.first r.last) rs
unfolding ranges all_pairs
pairs-all p [] rs h = let e : rs ≡ [] = cc in rw e
pairs-all p (a ∷ []) rs h = cc
pairs-all p (a ∷ b ∷ ws) rs h =
    let k = only_if-some (leb a b) (in_front (record { first = a; last = b }) (ranges ws)) rs h in
    let q = in_front-some (record { first = a; last = b }) (ranges ws) rs k.1 in
    rw (q.2, pairs-all p ws q.0 q.1)

pub triples_all : (p : ℕ → ℕ → ℕ → Bool) (ws : List ℕ) (rs : List ClassRange) → class_ranges ws ≡ some rs
    → all_triples p ws ≡ all (λ (r : ClassRange). p r.first r.last r.class) rs
unfolding class_ranges all_triples
triples_all p [] rs h = let e : rs ≡ [] = cc in rw e
triples_all p (a ∷ []) rs h = cc
triples_all p (a ∷ b ∷ []) rs h = cc
triples_all p (a ∷ b ∷ k ∷ ws) rs h =
    let m = only_if-some (leb a b && leb k most_class) (in_front (record { first = a; last = b; class = k }) (class_ranges ws)) rs h in
    let q = in_front-some (record { first = a; last = b; class = k }) (class_ranges ws) rs m.1 in
    rw (q.2, triples_all p ws q.0 q.1)

-- every pair, and every triple, as an array of its own
pub pairs_chunks : (p : ℕ → ℕ → Bool) (ws : List ℕ) → list_all (λ (a : List ℕ). p (get_or a 0 0) (get_or a 1 0)) (first_chunks 2 (length ws / 2) ws) ≡ all_pairs p ws
unfolding all_pairs
pairs_chunks p [] = refl
pairs_chunks p (a ∷ []) = refl
pairs_chunks p (a ∷ b ∷ ws) =
    let e : length (a ∷ b ∷ ws) / 2 ≡ suc (length ws / 2) = omega arith in
    rw e (ap (λ (r : Bool). p a b && r) (pairs_chunks p ws))

pub triples_chunks : (p : ℕ → ℕ → ℕ → Bool) (ws : List ℕ)
    → list_all (λ (a : List ℕ). p (get_or a 0 0) (get_or a 1 0) (get_or a 2 0)) (first_chunks 3 (length ws / 3) ws) ≡ all_triples p ws
unfolding all_triples
triples_chunks p [] = refl
triples_chunks p (a ∷ []) = refl
triples_chunks p (a ∷ b ∷ []) = refl
triples_chunks p (a ∷ b ∷ k ∷ ws) =
    let e : length (a ∷ b ∷ k ∷ ws) / 3 ≡ suc (length ws / 3) = omega arith in
    rw e (ap (λ (r : Bool). p a b k && r) (triples_chunks p ws))

-- Over records: the walk has come to `at`, and f gives for the records left what it gives for all.
pub record Through {X A : Type 0} (f : List X → A) (reader : ℕ → List ℕ → Option (List X)) (part : List ℕ) (at : ℕ) : Type 0 where
  pub left : List X
  pub walk : RecordsAt reader part at left
  pub same : f (records_in reader part) ≡ f left

module _ {X A : Type 0} (f : List X → A) (reader : ℕ → List ℕ → Option (List X)) (part : List ℕ) where
  pub through_start : Holds reader part → Through f reader part 0
  unfolding records_in
  through_start h = go (reader (length part) part) refl h
    where
      go : (o : Option (List X)) → reader (length part) part ≡ o → is_some o ≡ true → Through f reader part 0
      go none e i = absurd (let z : ◌≡◌ {A = ℕ} 0 1 = cc in omega arith)
      go (some xs) e i = record { left = xs; walk = records_start reader part xs e; same = rw e }

  -- the records left are x and the rest, and f leaves x out
  pub through_on : (at next : ℕ) (x : X) (rest : List X) → (w : Through f reader part at) → w.left ≡ x ∷ rest → f (x ∷ rest) ≡ f rest
      → RecordsAt reader part next rest → Through f reader part next
  through_on at next x rest w e s n = record { left = rest; walk = n; same = w.same ∙ ap f e ∙ s }

  pub through_at : (at : ℕ) (xs : List X) → (w : Through f reader part at) → w.left ≡ xs → f xs ≡ f (records_in reader part)
  through_at at xs w e = sym (w.same ∙ ap f e)

-- the records of a section
module _ {X : Type 0} (reader : ℕ → List ℕ → Option (List X)) (part : List ℕ) (xs : List X) (e : reader (length part) part ≡ some xs) where
  pub records_are : records_in reader part ≡ xs
  unfolding records_in
  records_are = rw e

  pub records_hold : Holds reader part
  records_hold = rw e

-- Every record passes the test.
module _ {X : Type 0} (p : X → Bool) (reader : ℕ → List ℕ → Option (List X)) (part : List ℕ) (at : ℕ) (w : Through (all p) reader part at) where
  pub all_broken : (x : X) (rest : List X) → w.left ≡ x ∷ rest → p x ≡ false → false ≡ all p (records_in reader part)
  all_broken x rest e b = let k : false ≡ all p (x ∷ rest) = rw b in k ∙ through_at (all p) reader part at (x ∷ rest) w e

  pub all_on : (next : ℕ) (x : X) (rest : List X) → w.left ≡ x ∷ rest → p x ≡ true → RecordsAt reader part next rest → Through (all p) reader part next
  all_on next x rest e b n = through_on (all p) reader part at next x rest w e (rw b) n

  pub all_done : w.left ≡ [] → true ≡ all p (records_in reader part)
  all_done e = through_at (all p) reader part at [] w e

-- The record at a place, and where its items stand.
module _ {A : Type 0} (f : List Headed → A) (part : List ℕ) (at : ℕ) (w : Through f as_headed part at) (h : at < length part) where
  pub head_here : HeadedHere most_items part at w.left
  head_here = headed_step most_items part at w.left w.walk h

  pub head_room : at + 1 + 1 + get_or part (at + 1) 0 ≤ length part
  head_room = omega (arith, head_here.fits)

  module _ (s : Span) (e : s ≡ counted_at part (at + 1)) where
    pub head_fits : Fits part s
    head_fits = rw e (record { ordered = omega arith; inside = head_room })

    pub head_items : within s part ≡ head_here.first.items
    head_items =
        let n : ℕ = get_or part (at + 1) 0 in
        let two : at + 1 + 1 ≡ at + 2 = omega arith in
        rw e (within_count part (at + 1 + 1) n ∙ ap (λ (k : ℕ). take n (drop k part)) two ∙ sym head_here.items)

    pub head_next : HeadedAt most_items part s.to head_here.rest
    head_next =
        let two : at + 1 + 1 + get_or part (at + 1) 0 ≡ at + 2 + get_or part (at + 1) 0 = omega arith in
        rw (e, two) head_here.next

    pub head_less : (at < s.to) × (s.to ≤ length part)
    head_less = rw e (omega arith, head_room)

-- the list of a group, by its place
listed_records : (part : List ℕ) (b : Bool) (r : std.Option Span) (list : Option (List (List ℕ))) → ListHere part b r list → Option.get_or list [] ≡ list_records part r
listed_records part b (Some s) list h = rw h.1.same
listed_records part b None list h = rw h.1

listed_holds : (part : List ℕ) (b : Bool) (r : std.Option Span) (list : Option (List (List ℕ))) → ListHere part b r list → ListHolds part r
listed_holds part b (Some s) list h = (h.1.fits, h.1.holds)
listed_holds part b None list h = tt

module _ {A : Type 0} (f : List Group → A) (part : List ℕ) (at : ℕ) (w : Through f groups part at) (h : at < length part) where
  pub group_here_lem : GroupHere part at w.left
  group_here_lem = groups_step part at w.left w.walk h

  pub group-room : at + 2 + get_or part (at + 1) 0 ≤ length part
  group-room = group_here_lem.fits

  module _ (v : GroupRecord) (e : v ≡ group_at part at) where
    pub group_in : Fits part v.pairs
    group_in = rw e (group-fits part at w.left group_here_lem)

    pub group_is : ranges (within v.pairs part) ≡ some group_here_lem.pairs
    group_is = rw e (group_reads part at w.left group_here_lem)

    pub group-listed : ListHere part v.listed v.list group_here_lem.list
    group-listed = rw e group_here_lem.listed

    -- the records of its list; without a list there are none
    pub group_items : Option.get_or group_here_lem.list [] ≡ list_records part v.list
    group_items = listed_records part v.listed v.list group_here_lem.list group-listed

    pub group-holds : ListHolds part v.list
    group-holds = listed_holds part v.listed v.list group_here_lem.list group-listed

    pub group-behind : GroupsAt part v.next group_here_lem.rest
    group-behind = rw e group_here_lem.next

    pub group_less : (at < v.next) × (v.next ≤ length part)
    group_less = rw e (omega arith, group_here_lem.ends)

-- Walks that ask something of every record, by its places.
module _ (q : ℕ → List ℕ → Bool) (part : List ℕ) (at : ℕ) (w : Through (all (λ (r : Headed). q r.head r.items)) as_headed part at) where
  module _ (h : at < length part) (s : Span) (e : s ≡ counted_at part (at + 1)) where
    here_passes : (b : Bool) → q (get_or part at 0) (within s part) ≡ b → q (head_here _ part at w h).first.head (head_here _ part at w h).first.items ≡ b
    here_passes b k = rw ((head_here _ part at w h).head, ← head_items _ part at w h s e) k

    pub heads_broken : q (get_or part at 0) (within s part) ≡ false → false ≡ all (λ (r : Headed). q r.head r.items) (records_in as_headed part)
    heads_broken b = let x = head_here _ part at w h in all_broken _ as_headed part at w x.first x.rest x.split (here_passes false b)

    pub heads_on : q (get_or part at 0) (within s part) ≡ true → Through (all (λ (r : Headed). q r.head r.items)) as_headed part s.to
    heads_on b =
        let x = head_here _ part at w h in
        all_on _ as_headed part at w s.to x.first x.rest x.split (here_passes true b) (head_next _ part at w h s e)

  pub heads_done : length part ≤ at → true ≡ all (λ (r : Headed). q r.head r.items) (records_in as_headed part)
  heads_done h = all_done _ as_headed part at w (headed_end most_items part at w.left w.walk h)

module _ (q : Group → Bool) (part : List ℕ) (at : ℕ) (w : Through (all q) groups part at) where
  module _ (h : at < length part) (v : GroupRecord) (e : v ≡ group_at part at) where
    -- b speaks of what the words say of the pairs and of the list of the group that stands here
    pub groups_broken : ((rs : List Range) (list : Option (List (List ℕ))) → ranges (within v.pairs part) ≡ some rs
        → Option.get_or list [] ≡ list_records part v.list → q (group (get_or part at 0) rs list) ≡ false)
        → false ≡ all q (records_in groups part)
    groups_broken b =
        let x = group_here_lem _ part at w h in
        all_broken _ groups part at w (group (get_or part at 0) x.pairs x.list) x.rest x.split (b x.pairs x.list (group_is _ part at w h v e) (group_items _ part at w h v e))

    pub groups_on : ((rs : List Range) (list : Option (List (List ℕ))) → ranges (within v.pairs part) ≡ some rs
        → Option.get_or list [] ≡ list_records part v.list → q (group (get_or part at 0) rs list) ≡ true)
        → Through (all q) groups part v.next
    groups_on b =
        let x = group_here_lem _ part at w h in
        all_on _ groups part at w v.next (group (get_or part at 0) x.pairs x.list) x.rest x.split (b x.pairs x.list (group_is _ part at w h v e) (group_items _ part at w h v e)) (group-behind _ part at w h v e)

  pub groups_done : length part ≤ at → true ≡ all q (records_in groups part)
  groups_done h = all_done _ groups part at w (groups_end part at w.left w.walk h)

-- Where a reader reads the words at all, as many steps as there are words are enough.
pub sequences_enough : (k m : ℕ) (ws : List ℕ) (xs : List (List ℕ)) → sequences k ws ≡ some xs → length ws ≤ m → sequences m ws ≡ some xs
unfolding sequences
sequences_enough zero zero [] xs e h = e
sequences_enough zero (suc m) [] xs e h = e
sequences_enough zero m (w ∷ ws) xs e h = absurd (let z : ◌≡◌ {A = ℕ} 0 1 = cc in omega arith)
sequences_enough (suc k) zero [] xs e h = e
sequences_enough (suc k) (suc m) [] xs e h = e
sequences_enough (suc k) zero (n ∷ ws) xs e h = absurd (omega arith)
sequences_enough (suc k) (suc m) (n ∷ ws) xs e h =
    let p = only_if-some (count_fits most_items n ws) (in_front (take n ws) (sequences k (drop n ws))) xs e in
    let q = in_front-some (take n ws) (sequences k (drop n ws)) xs p.1 in
    let less : length (drop n ws) ≤ m = simp length-drop (omega arith) in
    rw (p.0, sequences_enough k m (drop n ws) q.0 q.1 less) (ap some (sym q.2))

pub headed_enough : (k m most : ℕ) (ws : List ℕ) (xs : List Headed) → headed k most ws ≡ some xs → length ws ≤ m → headed m most ws ≡ some xs
unfolding headed
headed_enough zero zero most [] xs e h = e
headed_enough zero (suc m) most [] xs e h = e
headed_enough zero m most (w ∷ ws) xs e h = absurd (let z : ◌≡◌ {A = ℕ} 0 1 = cc in omega arith)
headed_enough (suc k) zero most [] xs e h = e
headed_enough (suc k) (suc m) most [] xs e h = e
headed_enough (suc k) zero most (a ∷ ws) xs e h = absurd (omega arith)
headed_enough (suc k) (suc m) most (a ∷ []) xs e h = e
headed_enough (suc k) (suc m) most (a ∷ n ∷ ws) xs e h =
    let r : Headed = record { head = a; items = take n ws } in
    let p = only_if-some (count_fits most n ws) (in_front r (headed k most (drop n ws))) xs e in
    let q = in_front-some r (headed k most (drop n ws)) xs p.1 in
    let less : length (drop n ws) ≤ m = simp length-drop (omega arith) in
    rw (p.0, headed_enough k m most (drop n ws) q.0 q.1 less) (ap some (sym q.2))

-- what is left of a section from `at` on, as a part of its own
module _ (part : List ℕ) (at : ℕ) where
  pub sequences-behind : (xs : List (List ℕ)) → RecordsAt sequences part at xs → sequences (length (drop at part)) (drop at part) ≡ some xs
  sequences-behind xs w = sequences_enough w.steps (length (drop at part)) (drop at part) xs w.parses (omega arith)

  pub headed-behind : (xs : List Headed) → RecordsAt as_headed part at xs → as_headed (length (drop at part)) (drop at part) ≡ some xs
  headed-behind xs w = headed_enough w.steps (length (drop at part)) most_items (drop at part) xs w.parses (omega arith)

-- the part from a place to the end
pub tail_is : (ws : List ℕ) (n : ℕ) → take (length ws - n) (drop n ws) ≡ drop n ws
tail_is ws n = take_all (length ws - n) (drop n ws) (simp length-drop (omega arith))
