-- Laws of the walks that set claims: over the pairs of a group, and over the groups.
use Prim.Native.Nat.{ℕ, ◌+◌, ◌-◌, ◌<◌, ◌≤◌}
use native.Mathlib.Omega.{arith}
use mathlib.Core.Path.{◌≡◌, refl, ◌∙◌}
use mathlib.Core.Bool.{Bool, true, false, ◌&&◌, ◌||◌, false≢true}
use mathlib.Core.List.{List, [], ◌∷◌, ◌++◌}
use lib.ListN.{length, get_or}
use lib.Dec.{eqb, leb}
use Rattle.std.specs.declared.slice.ChunksExact.{ChunksExact}
use borrow.Author.Tests.{le-leb}
use Rattle.lists.specs.Laws.{both_right}
use Rattle.table.specs.declared.GroupRecord.{GroupRecord}
use Rattle.table.specs.Table.{Group}
use Rattle.table.specs.Spans.{within}
use Rattle.table.specs.Lookup.{holds}
use Rattle.table.specs.Part.{in_pairs}
use Rattle.table.specs.GroupPart.{groups_in, GroupsPart, group_at}
use Rattle.table.proofs.GroupWalks.{GroupWalk, group_start, group-stop, group_here, pairs_hold, group_on}
use Rattle.group_numbers.specs.Components.{no_group, nth}
use Rattle.group_numbers.specs.Batch.{Claims, Claimed, Takes}
use Rattle.group_claims.proofs.ClaimLaws.{takes_none, takes_on}
use Rattle.group_numbers.proofs.NthLaws.{next}

-- a word that is left over makes no pair
no_pair : (x : ℕ) (ws : List ℕ) → length ws ≤ 1 → in_pairs x ws ≡ false
unfolding in_pairs
no_pair x [] h = refl
no_pair x (a ∷ []) h = refl
no_pair x (a ∷ b ∷ ws) h = absurd (omega arith)

none-taken : (a : Bool) → (a && false) ≡ true → ⊥
none-taken a e = false≢true (both_right a false e)

or_assoc : (a b d : Bool) → (a || (b || d)) ≡ ((a || b) || d)
or_assoc true b d = refl
or_assoc false b d = refl

and_or : (a b d : Bool) → (a && (b || d)) ≡ ((a && b) || (a && d))
and_or true b d = refl
and_or false b d = refl

-- the first pair, and the rest
pairs_first : (c : ℕ) (x ws : List ℕ) → length x ≡ 2
    → in_pairs c (x ++ ws) ≡ ((leb (get_or x 0 0) c && leb c (get_or x 1 0)) || in_pairs c ws)
unfolding in_pairs
pairs_first c [] ws l = absurd (omega arith)
pairs_first c (a ∷ []) ws l = absurd (omega arith)
pairs_first c (a ∷ b ∷ []) ws l = refl
pairs_first c (a ∷ b ∷ d ∷ x) ws l = absurd (omega arith)

-- claims are set for the pairs that came already
pub record PairWalk (pairs xs : List ℕ) (n : ℕ) (m₀ m : Claimed) (it : ChunksExact ℕ) : Type 0 where
  pub size : it.size ≡ 2
  pub done : ℕ → Bool
  pub takes : Takes (λ g x. eqb g n && done x) xs m₀ m
  pub rest : (x : ℕ) → in_pairs x pairs ≡ (done x || in_pairs x it.rest.now)

module _ (pairs xs : List ℕ) (n : ℕ) (m₀ : Claimed) where
  pub pair_start : Claims m₀.ends m₀.owners m₀.numbers → (it : ChunksExact ℕ) → it.size ≡ 2 → it.rest.now ≡ pairs → PairWalk pairs xs n m₀ m₀ it
  pair_start w it s e =
      record {
        size = s;
        done = λ x. false;
        takes = takes_none xs m₀ w (λ g x. eqb g n && false) (λ g q h e. none-taken (eqb g n) e);
        rest = λ x. rw e;
      }

  module _ (m : Claimed) (it : ChunksExact ℕ) (w : PairWalk pairs xs n m₀ m it) where
    pub pair_on : (next : ChunksExact ℕ) (p : List ℕ) → it.rest.now ≡ p ++ next.rest.now → length p ≡ it.size → next.size ≡ it.size → (m' : Claimed)
        → Takes (λ g x. eqb g n && (leb (get_or p 0 0) x && leb x (get_or p 1 0))) xs m m' → PairWalk pairs xs n m₀ m' next
    pair_on next p e l s m' t =
        let here : ℕ → Bool = λ x. leb (get_or p 0 0) x && leb x (get_or p 1 0) in
        record {
          size = s ∙ w.size;
          done = λ x. w.done x || here x;
          takes =
              takes_on xs m₀ m m' (λ g x. eqb g n && w.done x) (λ g x. eqb g n && here x) (λ g x. eqb g n && (w.done x || here x)) w.takes t
              (λ g x. and_or (eqb g n) (w.done x) (here x));
          rest = λ x. w.rest x ∙ rw (e, pairs_first x p next.rest.now (l ∙ w.size)) (or_assoc (w.done x) (here x) (in_pairs x next.rest.now));
        }

    pub pair-stop : length it.rest.now < it.size → Takes (λ g x. eqb g n && in_pairs x pairs) xs m₀ m
    pair-stop h =
        takes_on xs m₀ m m (λ g x. eqb g n && w.done x) (λ g x. eqb g n && false) (λ g x. eqb g n && in_pairs x pairs) w.takes
        (takes_none xs m w.takes.claims (λ g x. eqb g n && false) (λ g q k e. none-taken (eqb g n) e))
        (λ g x. rw (w.rest x, no_pair x it.rest.now (omega (arith, h, w.size))) (and_or (eqb g n) (w.done x) false))

-- Claims are set for the groups before number n; those from there on are `left`.
pub record Taking (part xs : List ℕ) (m₀ m : Claimed) (n : ℕ) (left : List Group) : Type 0 where
  pub done : ℕ → ℕ → Bool
  pub takes : Takes done xs m₀ m
  pub rest : (i x : ℕ) → holds (nth (groups_in part) i) x ≡ (done i x || (leb n i && holds (nth left (i - n)) x))

abbrev pub TakeWalk : List ℕ → List ℕ → Claimed → Claimed → ℕ → ℕ → Type 0
TakeWalk part xs m₀ m n at = GroupWalk part n at (Taking part xs m₀ m n)

module _ (part xs : List ℕ) (m₀ : Claimed) where
  pub groups_start : GroupsPart part → Claims m₀.ends m₀.owners m₀.numbers → TakeWalk part xs m₀ m₀ 0 0
  groups_start g w =
      group_start part (Taking part xs m₀ m₀ 0) g
      (record {
        done = λ i x. false;
        takes = takes_none xs m₀ w (λ i x. false) (λ i q h e. false≢true e);
        rest = λ i x. let z : i - 0 ≡ i = omega arith in rw (le-leb 0 i (omega arith), z);
      })

  module _ (m : Claimed) (n at : ℕ) (w : TakeWalk part xs m₀ m n at) where
    pub groups-stop : length part ≤ at → Takes (λ i x. holds (nth (groups_in part) i) x) xs m₀ m
    unfolding nth no_group
    groups-stop h =
        let t = group-stop part n at (Taking part xs m₀ m n) w h in
        takes_on xs m₀ m m t.done (λ i x. false) (λ i x. holds (nth (groups_in part) i) x) t.takes
        (takes_none xs m t.takes.claims (λ i x. false) (λ i q k e. false≢true e))
        (λ i x. t.rest i x ∙ rw (none (leb n i)))
      where
        none : (a : Bool) → (a && false) ≡ false
        none true = refl
        none false = refl

    module _ (h : at < length part) (v : GroupRecord) (e : v ≡ group_at part at) where
      abbrev here : Group
      here = group_here part n at (Taking part xs m₀ m n) w h

      pub groups_on : (m' : Claimed) → Takes (λ i x. eqb i n && in_pairs x (within v.pairs part)) xs m m' → TakeWalk part xs m₀ m' (n + 1) v.next
      groups_on m' t =
          group_on part n at (Taking part xs m₀ m n) w h v e (Taking part xs m₀ m' (n + 1))
          (λ left q. record {
            done = λ i x. q.done i x || (eqb i n && in_pairs x (within v.pairs part));
            takes =
                takes_on xs m₀ m m' q.done (λ i x. eqb i n && in_pairs x (within v.pairs part))
                (λ i x. q.done i x || (eqb i n && in_pairs x (within v.pairs part))) q.takes t (λ i x. refl);
            rest = λ i x.
                q.rest i x ∙ rw (next here left n i x, pairs_hold part n at (Taking part xs m₀ m n) w h v e x)
                (or_assoc (q.done i x) (eqb i n && holds here x) (leb (n + 1) i && holds (nth left (i - (n + 1))) x));
          })
