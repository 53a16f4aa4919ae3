-- Rule 8 from what the walks see: the full decomposition of a codepoint outside the set starts with one that is no second item, stands in order and
-- is composed again.
use Prim.Native.Nat.{ℕ, zero, suc, ◌-◌, ◌≤◌}
use Rattle.std.proofs.Common.{arith, sym, ◌∙◌, eqb-true, eq-eqb, leb-true}
use Rattle.std.specs.Prelude.{◌≡◌, true, false, ◌&&◌, ◌||◌, cond, ◌⊎◌, leb}
use Rattle.std.proofs.Math.Path.{refl, ap}
use Rattle.std.proofs.Math.Bool.{Bool, not}
use mathlib.Core.List.{List, [], ◌∷◌, ◌++◌, Memᴰ}
use Rattle.std.proofs.Math.Logic.{inl, inr, ⊎_elim}
use Rattle.std.proofs.Math.Option.{Option, none, some, map, none-ne-some}
use Rattle.std.proofs.Math.Dec.{eqb}
use Rattle.lists.specs.Lists.{any, first_with, mem, same_list}
use Rattle.lists.specs.Laws.{Every, every_imp, both, both_left, both_right, either, every_member, found_member, keep_member, member_of, same-list}
use Rattle.lists.specs.Elements.{list_same}
use Rattle.lists.specs.Members.{Passing, any_passing, keep_keeps}
use Rattle.lists.specs.Tests.{never, not_so, untrue}
use Rattle.table.specs.Table.{Table, Headed}
use Rattle.table.specs.Lookup.{in_quick_check}
use Rattle.text.specs.Hangul.{is_leading, is_vowel, is_trailing, is_jamo, is_syllable, jamo_of}
use Rattle.text.specs.Decomposition.{class_of, single, four_rounds}
use Rattle.text.specs.Ordering.{out_of_order, nfd}
use Rattle.text.specs.Composition.{is_two, first_item, is_pair, pairs, table_pair, pair, compose_after, compose, nfc}
use Rattle.text.specs.QuickCheck.{in_order, second_item, is_second, Quick}
use Rattle.text_laws.specs.Rounds.{fully, rounds_cons}
use Rattle.text_laws.specs.Insertion.{stays_test, order_same}
use Rattle.text_laws.specs.Composing.{after_nil, after-taken, compose_nil, compose_starter, compose_mark, starter_or_mark}
use Rattle.rule6_laws.specs.Stable.{Stable, Rule6, rule6_parts, fully-one, fully-single, fully_syllable, syllable_number}
use Rattle.quick_laws.specs.Own.{Takes}
use Rattle.quick_local.specs.Local.{outside, SecondFits, OuterFits, Local}
use Rattle.quick_local.specs.Jamo.{Spelled, jamos, jamo_starter, spelled}
use Rattle.quick_local.specs.Depth.{Replaced, Within, single-cases, no_head_stable, levels_within, found-rule6}
use Rattle.quick_local.specs.Once.{no_hangul}

-- where nothing was found, no member passes
pub first-none : {A : Type 0} (p : A → Bool) {x : A} {s : List A} → Memᴰ x s → p x ≡ true → first_with p s ≡ none → ⊥
first-none p {x} (Memᴰ.head {x = y} {xs = s} e) k f = none-ne-some x (sym (rw (← e, k) at f))
first-none p (Memᴰ.tail {x = y} {xs = s} m) k f = go (p y) f (first-none p m k)
  where
    go : (b : Bool) → cond b (some y) (first_with p s) ≡ none → (first_with p s ≡ none → ⊥) → ⊥
    go true g below = none-ne-some y (sym g)
    go false g below = below g

module _ (t : Table) where
  -- one more behind starters, and behind a text whose last is in order with it
  starters_more : (s : List ℕ) (b : ℕ) → Every (λ x. class_of t x ≡ 0) s → in_order t (s ++ b ∷ []) ≡ true
  unfolding in_order
  starters_more [] b h = refl
  starters_more (x ∷ []) b h = rw (stays_test t x b (inr (omega (arith, h.0))))
  starters_more (x ∷ y ∷ s) b h =
      both (not (out_of_order t x y)) (in_order t (y ∷ s ++ b ∷ [])) (rw (stays_test t x y (inr (omega (arith, h.0))))) (starters_more (y ∷ s) b h.1)

  order_more : (s : List ℕ) (a b : ℕ) → in_order t (s ++ a ∷ []) ≡ true → out_of_order t a b ≡ false → in_order t ((s ++ a ∷ []) ++ b ∷ []) ≡ true
  unfolding in_order
  order_more [] a b h e = rw e
  order_more (x ∷ []) a b h e =
      both (not (out_of_order t x a)) (in_order t (a ∷ b ∷ [])) (both_left (not (out_of_order t x a)) (in_order t (a ∷ [])) h) (order_more [] a b refl e)
  order_more (x ∷ y ∷ s) a b h e =
      both (not (out_of_order t x y)) (in_order t (y ∷ (s ++ a ∷ []) ++ b ∷ [])) (both_left (not (out_of_order t x y)) (in_order t (y ∷ s ++ a ∷ [])) h) (order_more (y ∷ s) a b (both_right (not (out_of_order t x y)) (in_order t (y ∷ s ++ a ∷ [])) h) e)

  -- the front of a text in order
  order_less : (s : List ℕ) (b : ℕ) → in_order t (s ++ b ∷ []) ≡ true → in_order t s ≡ true
  unfolding in_order
  order_less [] b h = refl
  order_less (x ∷ []) b h = refl
  order_less (x ∷ y ∷ s) b h =
      both (not (out_of_order t x y)) (in_order t (y ∷ s)) (both_left (not (out_of_order t x y)) (in_order t (y ∷ s ++ b ∷ [])) h) (order_less (y ∷ s) b (both_right (not (out_of_order t x y)) (in_order t (y ∷ s ++ b ∷ [])) h))

  -- one more is taken in
  takes_more : (s : ℕ) (r : List ℕ) (a b c : ℕ) → Takes t s r a → pair t a b ≡ some c → Takes t s (r ++ b ∷ []) c
  takes_more s [] a b c f e = (c, rw f e, refl)
  takes_more s (x ∷ r) a b c f e = (f.0, f.1, takes_more f.0 r a b c f.2 e)

  takes-composed : (s : ℕ) (r : List ℕ) (c : ℕ) → Takes t s r c → compose_after t s [] r ≡ c ∷ []
  takes-composed s [] c f = after_nil t s [] ∙ rw f
  takes-composed s (x ∷ r) c f = after-taken t s [] x r f.0 f.1 ∙ takes-composed f.0 r c f.2

  -- the parts of the test of a pair
  pub record Paired (r : Headed) : Type 0 where
    pub a : ℕ
    pub b : ℕ
    pub items : r.items ≡ a ∷ b ∷ []
    pub head_starter : class_of t r.head ≡ 0
    pub first_starter : class_of t a ≡ 0

  pub paired : (r : Headed) → is_pair t r ≡ true → Paired r
  unfolding is_pair
  paired r h = go r.items refl
    where
      two : List ℕ → Bool
      two s = is_two s && not (mem r.head t.exclusions) && eqb (class_of t r.head) 0 && eqb (class_of t (first_item s)) 0

      kept : Bool
      kept = not (mem r.head t.exclusions)

      own : Bool
      own = eqb (class_of t r.head) 0

      go : (s : List ℕ) → r.items ≡ s → Paired r
      go [] e = never (two []) (rw e at h) refl
      go (x ∷ []) e = never (two (x ∷ [])) (rw e at h) refl
      go (x ∷ y ∷ []) e =
          let k : (kept && own && eqb (class_of t x) 0) ≡ true = rw e at h in
          record {
            a = x;
            b = y;
            items = e;
            head_starter = eqb-true (class_of t r.head) 0 (both_right kept own (both_left (kept && own) (eqb (class_of t x) 0) k));
            first_starter = eqb-true (class_of t x) 0 (both_right (kept && own) (eqb (class_of t x) 0) k);
          }
      go (x ∷ y ∷ z ∷ s) e = never (two (x ∷ y ∷ z ∷ s)) (rw e at h) refl

module _ (t : Table) (h : Local t) where
  r6 : Rule6 t
  r6 = rule6_parts t (found-rule6 t h)

  -- a second item is a vowel, a trailing consonant or that of a record
  second-cases : (x : ℕ) → is_second t x ≡ true → (is_vowel x ≡ true) ⊎ ((is_trailing x ≡ true) ⊎ SecondFits t x)
  unfolding is_second pairs
  second-cases x e =
      ⊎_elim (λ k. ⊎_elim (λ v. inl v) (λ r. inr (inl r)) (either (is_vowel x) (is_trailing x) k)) (λ k. inr (inr (entry (any_passing at (pairs t) k)))) (either (is_vowel x || is_trailing x) (any at (pairs t)) e)
    where
      at : Headed → Bool
      at r = eqb (second_item r.items) x

      entry : Passing at (pairs t) → SecondFits t x
      entry p =
          let k = keep_member (is_pair t) t.decompositions p.element p.member in
          rw (eqb-true (second_item p.element.items) x p.passes) at (h.seconds p.element k.0 k.1)

  -- what is outside the set is no second item
  outside_alone : (x : ℕ) → in_quick_check t x ≡ false → is_second t x ≡ false
  outside_alone x o = not_so (is_second t x) (λ e. ⊎_elim (λ v. no (h.vowels x v)) (λ k. ⊎_elim (λ r. no (h.trailing x r)) (λ (s : SecondFits t x). no s.held) k) (second-cases x e))
    where
      no : in_quick_check t x ≡ true → ⊥
      no k = never (in_quick_check t x) k o

  -- a leading consonant is no second item
  leading_alone : (x : ℕ) → is_leading x ≡ true → is_second t x ≡ false
  leading_alone x l = not_so (is_second t x) (λ e. ⊎_elim vowel (λ k. ⊎_elim trailing record_second k) (second-cases x e))
    where
      high : x ≤ 0x1112
      high = leb-true x 0x1112 (both_right (leb 0x1100 x) (leb x 0x1112) l)

      vowel : is_vowel x ≡ true → ⊥
      vowel v = omega (arith, high, leb-true 0x1161 x (both_left (leb 0x1161 x) (leb x 0x1175) v))

      trailing : is_trailing x ≡ true → ⊥
      trailing r = omega (arith, high, leb-true 0x11A8 x (both_left (leb 0x11A8 x) (leb x 0x11C2) r))

      record_second : SecondFits t x → ⊥
      record_second s = never (is_jamo x) (rw l) s.jamo

  -- a pair outside the set makes its head
  pair_made : (r : Headed) (a b : ℕ) → Memᴰ r t.decompositions → is_pair t r ≡ true → r.items ≡ a ∷ b ∷ [] → is_jamo b ≡ false → pair t a b ≡ some r.head
  unfolding pair table_pair pairs
  pair_made r a b m p i n = rw (no_hangul a b n) (go (first_with same (pairs t)) refl)
    where
      same : Headed → Bool
      same q = same_list q.items (a ∷ b ∷ [])

      go : (o : Option Headed) → first_with same (pairs t) ≡ o → map (λ (q : Headed). q.head) o ≡ some r.head
      go none e = absurd (first-none same (keep_keeps (is_pair t) m p) (rw i (list_same (a ∷ b ∷ []))) e)
      go (some q) e =
          let f = found_member same (pairs t) q e in
          let k = keep_member (is_pair t) t.decompositions q f.0 in
          ap some (h.once q r k.0 m k.1 p (same-list q.items (a ∷ b ∷ []) f.1 ∙ sym i))

  -- the full decomposition of a starter outside the set, and what may stand behind it in order
  pub record Chain (c : ℕ) : Type 0 where
    pub first : ℕ
    pub rest : List ℕ
    pub is : fully t c ≡ first ∷ rest
    pub starter : class_of t first ≡ 0
    pub ordered : in_order t (first ∷ rest) ≡ true
    pub takes : Takes t first rest c
    pub alone : is_second t first ≡ false
    pub behind : (b : ℕ) → ((q : Headed) → Memᴰ q t.decompositions → q.head ≡ c → out_of_order t (second_item q.items) b ≡ false) → in_order t (first ∷ rest ++ b ∷ []) ≡ true

  chain_stable : (c : ℕ) → Stable t c → in_quick_check t c ≡ false → class_of t c ≡ 0 → Chain c
  chain_stable c s o z = record {
    first = c;
    rest = [];
    is = fully-one t c s;
    starter = z;
    ordered = order_less t (c ∷ []) 0 (starters_more t (c ∷ []) 0 (z, tt));
    takes = refl;
    alone = outside_alone c o;
    behind = λ b k. starters_more t (c ∷ []) b (z, tt);
  }

  chain_syllable : (c : ℕ) → is_syllable c ≡ true → Chain c
  chain_syllable c k =
      let w : Spelled t c = spelled t c k in
      let all-starters : Every (λ x. class_of t x ≡ 0) (w.first ∷ w.rest) = rw w.is at (every_imp (jamo_of (c - 0xAC00)) (jamo_starter t) (jamos (c - 0xAC00) (syllable_number c k))) in
      record {
        first = w.first;
        rest = w.rest;
        is = fully_syllable t r6 c k ∙ w.is;
        starter = all-starters.0;
        ordered = order_less t (w.first ∷ w.rest) 0 (starters_more t (w.first ∷ w.rest) 0 all-starters);
        takes = w.takes;
        alone = leading_alone w.first w.leading;
        behind = λ b q. starters_more t (w.first ∷ w.rest) b all-starters;
      }

  -- one record more
  chain_record : (r : Headed) (a b : ℕ) → Memᴰ r t.decompositions → OuterFits t r → r.items ≡ a ∷ b ∷ [] → single t r.head ≡ a ∷ b ∷ [] → Chain a → Chain r.head
  chain_record r a b m f i e k =
      let s : SecondFits t b = rw i at (h.seconds r m f.paired) in
      let one : fully t b ≡ b ∷ [] = fully-one t b (no_head_stable t b s.head s.syllable) in
      let split : fully t r.head ≡ fully t a ++ b ∷ [] = fully-single t r6 r.head ∙ ap (four_rounds t) e ∙ rounds_cons t a (b ∷ []) ∙ ap (λ (l : List ℕ). fully t a ++ l) one in
      let made : pair t a b ≡ some r.head = pair_made r a b m f.paired i s.jamo in
      let ordered : in_order t (k.first ∷ k.rest ++ b ∷ []) ≡ true = k.behind b (rw i at f.behind) in
      record {
        first = k.first;
        rest = k.rest ++ b ∷ [];
        is = split ∙ ap (λ (l : List ℕ). l ++ b ∷ []) k.is;
        starter = k.starter;
        ordered = ordered;
        takes = takes_more t k.first k.rest a b r.head k.takes made;
        alone = k.alone;
        behind = λ x q. order_more t (k.first ∷ k.rest) b x ordered (rw i at (q r m refl));
      }

  -- what a record that is outside the set says of its items
  pub record Outer (c : ℕ) (r : Headed) : Type 0 where
    pub fits : OuterFits t r
    pub pair : Paired t r
    pub first : in_quick_check t pair.a ≡ false
    pub starter : class_of t c ≡ 0

  outer : (c : ℕ) (r : Replaced t c) → in_quick_check t c ≡ false → Outer c r.entry
  outer c r o =
      let f : OuterFits t r.entry = h.outer r.entry r.there (rw r.of o) in
      let p : Paired t r.entry = paired t r.entry f.paired in
      record { fits = f; pair = p; first = rw p.items at f.first; starter = rw r.of at p.head_starter }

  chain_replaced : (c : ℕ) (r : Replaced t c) → Outer c r.entry → ((a : ℕ) → single t c ≡ r.entry.items → mem a r.entry.items ≡ true → in_quick_check t a ≡ false → class_of t a ≡ 0 → Chain a) → Chain c
  chain_replaced c r f below =
      let p = f.pair in
      let k : Chain p.a = below p.a r.is (rw (p.items, eq-eqb p.a p.a refl)) f.first p.first_starter in
      rw r.of at (chain_record r.entry p.a p.b r.there f.fits p.items (rw r.of (r.is ∙ p.items)) k)

  chain : (n c : ℕ) → Within t n c → in_quick_check t c ≡ false → class_of t c ≡ 0 → Chain c
  chain zero c w o z = chain_stable c w o z
  chain (suc n) c w o z = go (is_syllable c) refl (λ a u. chain n a u)
    where
      go : (b : Bool) → is_syllable c ≡ b → ((a : ℕ) → Within t n a → in_quick_check t a ≡ false → class_of t a ≡ 0 → Chain a) → Chain c
      go true k below = chain_syllable c k
      go false k below = ⊎_elim (λ s. chain_stable c s o z) entry (single-cases t c k)
        where
          entry : Replaced t c → Chain c
          entry r = chain_replaced c r (outer c r o) (λ a e m. below a (every_member (Within t n) r.entry.items (rw e at w) (member_of a r.entry.items m)))

  -- what is composed again
  chain_own : (c : ℕ) → Chain c → nfc t (c ∷ []) ≡ c ∷ []
  unfolding nfc nfd
  chain_own c k = rw (k.is, order_same t (k.first ∷ k.rest) k.ordered, compose_starter t k.first k.rest k.starter) (takes-composed t k.first k.rest c k.takes)

  chain_start : (c : ℕ) → Chain c → is_second t (first_item (nfd t (c ∷ []))) ≡ false
  unfolding nfd
  chain_start c k = rw (k.is, order_same t (k.first ∷ k.rest) k.ordered) k.alone

  -- a codepoint that is its own full decomposition
  stable_nfd : (c : ℕ) → Stable t c → nfd t (c ∷ []) ≡ c ∷ []
  unfolding nfd in_order
  stable_nfd c s = rw (fully-one t c s) (order_same t (c ∷ []) refl)

  stable_own : (c : ℕ) → Stable t c → nfc t (c ∷ []) ≡ c ∷ []
  unfolding nfc
  stable_own c s =
      ap (compose t) (stable_nfd c s) ∙ ⊎_elim (λ z. compose_starter t c [] z ∙ after_nil t c []) (λ z. compose_mark t c [] z ∙ ap (λ (l : List ℕ). c ∷ l) (compose_nil t)) (starter_or_mark t c)

  -- a codepoint outside the set is its own full decomposition, or is composed again
  outside-cases : (c : ℕ) → in_quick_check t c ≡ false → Stable t c ⊎ Chain c
  outside-cases c o = go (is_syllable c) refl
    where
      go : (b : Bool) → is_syllable c ≡ b → Stable t c ⊎ Chain c
      go true k = inr (chain_syllable c k)
      go false k = ⊎_elim (λ s. inl s) (λ r. inr (chain 4 c (levels_within t h.plain h.levels c) o (outer c r o).starter)) (single-cases t c k)

  -- rule 8
  pub found_quick : Quick t (outside t)
  found_quick = record {
    own = λ c o. ⊎_elim (stable_own c) (chain_own c) (outside-cases c (untrue (in_quick_check t c) o));
    start = λ c o. ⊎_elim (λ s. rw (stable_nfd c s) (outside_alone c (untrue (in_quick_check t c) o))) (chain_start c) (outside-cases c (untrue (in_quick_check t c) o));
  }
