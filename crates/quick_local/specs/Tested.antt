-- `Local` by tests that compute, for closed tables.
use Rattle.std.specs.Prelude.{ℕ, ◌≤◌, ◌≡◌, Bool, true, false, not, ◌&&◌, ◌||◌, List, leb, eqb}
use Rattle.std.proofs.Common.{arith, eqb-true, eq-eqb, leb-true, le-leb}
use Rattle.std.proofs.lemmas.Bool.{false≢true}
use Rattle.lists.specs.Lists.{all, any, is_empty, same_list}
use Rattle.lists.specs.Laws.{both, both_left, both_right}
use Rattle.lists.specs.Elements.{list_same}
use Rattle.lists.specs.Members.{all-at, any_passing, passing_any}
use Rattle.lists.specs.Tests.{untrue}
use Rattle.table.specs.Table.{Table, Headed, Range}
use Rattle.table.specs.Lookup.{in_range, in_ranges, in_quick_check}
use Rattle.heads.specs.Heads.{rising}
use Rattle.text.specs.Hangul.{is_syllable, is_jamo}
use Rattle.text.specs.Ordering.{out_of_order}
use Rattle.text.specs.Composition.{first_item, is_pair}
use Rattle.text.specs.QuickCheck.{second_item}
use Rattle.soundness.specs.Pairs.{heads, plain_head, spares_hangul}
use Rattle.quick_local.specs.Local.{is_head, Lifts, SecondFits, OuterFits, Local}

-- where a holds, b does
abbrev implies : Bool → Bool → Bool
implies a b = not a || b

implied : (a b : Bool) → implies a b ≡ true → a ≡ true → b ≡ true
implied true b e h = e
implied false b e h = absurd (false≢true h)

-- one range holds all from a to b
pub range-holds : (rs : List Range) (a b : ℕ) → any (λ (r : Range). leb r.first a && leb b r.last) rs ≡ true → (c : ℕ) → (leb a c && leb c b) ≡ true → in_ranges c rs ≡ true
range-holds rs a b e c h =
    let p = any_passing (λ (r : Range). leb r.first a && leb b r.last) rs e in
    let low : p.element.first ≤ a = leb-true p.element.first a (both_left (leb p.element.first a) (leb b p.element.last) p.passes) in
    let high : b ≤ p.element.last = leb-true b p.element.last (both_right (leb p.element.first a) (leb b p.element.last) p.passes) in
    let from : a ≤ c = leb-true a c (both_left (leb a c) (leb c b) h) in
    let to : c ≤ b = leb-true c b (both_right (leb a c) (leb c b) h) in
    passing_any (in_range c) p.member (both (leb p.element.first c) (leb c p.element.last) (le-leb p.element.first c (omega (arith, low, from))) (le-leb c p.element.last (omega (arith, to, high))))

-- the tests of the parts
abbrev lifts : List Headed → (ℕ → Bool) → (ℕ → Bool) → Bool
lifts rs from to = all (λ (r : Headed). implies (any from r.items) (to r.head)) rs

abbrev holds_all : Table → ℕ → ℕ → Bool
holds_all t a b = any (λ (r : Range). leb r.first a && leb b r.last) t.quick_check

abbrev second_fits : Table → ℕ → Bool
second_fits t b = in_quick_check t b && not (is_head t b) && not (is_syllable b) && not (is_jamo b)

abbrev pub seconds_fit : Table → Bool
seconds_fit t = all (λ (r : Headed). implies (is_pair t r) (second_fits t (second_item r.items))) t.decompositions

abbrev following : Table → Headed → Headed → Bool
following t r q = implies (eqb q.head (first_item r.items)) (not (out_of_order t (second_item q.items) (second_item r.items)))

abbrev outer_fits : Table → Headed → Bool
outer_fits t r = is_pair t r && not (in_quick_check t (first_item r.items)) && all (following t r) t.decompositions

abbrev pub outers_fit : Table → Bool
outers_fit t = all (λ (r : Headed). implies (not (in_quick_check t r.head)) (outer_fits t r)) t.decompositions

abbrev once_fits : Table → Headed → Headed → Bool
once_fits t q r = implies (is_pair t q && is_pair t r && same_list q.items r.items) (eqb q.head r.head)

abbrev pub once_fit : Table → Bool
once_fit t = all (λ (q : Headed). all (once_fits t q) t.decompositions) t.decompositions

-- the parts of `Local` as tests
pub record Tested (t : Table) : Type 0 where
  pub some : is_empty t.quick_check ≡ false
  pub rises : rising 0 t.decompositions ≡ true
  pub plain : all plain_head (heads t) ≡ true
  pub spares : all spares_hangul t.classes ≡ true
  pub low : ℕ → Bool
  pub high : ℕ → Bool
  pub first : lifts t.decompositions (is_head t) low ≡ true
  pub second : lifts t.decompositions low high ≡ true
  pub last : lifts t.decompositions high (λ x. false) ≡ true
  pub vowels : holds_all t 0x1161 0x1175 ≡ true
  pub trailing : holds_all t 0x11A8 0x11C2 ≡ true
  pub seconds : seconds_fit t ≡ true
  pub outer : outers_fit t ≡ true
  pub once : once_fit t ≡ true

lifts_up : (rs : List Headed) (from to : ℕ → Bool) → lifts rs from to ≡ true → Lifts rs from to
lifts_up rs from to e r m = implied (any from r.items) (to r.head) (all-at (λ (q : Headed). implies (any from q.items) (to q.head)) m e)

second_fits_lem : (t : Table) (b : ℕ) → second_fits t b ≡ true → SecondFits t b
second_fits_lem t b e =
    let held = in_quick_check t b in
    let head = not (is_head t b) in
    let syllable = not (is_syllable b) in
    let three : (held && head && syllable) ≡ true = both_left (held && head && syllable) (not (is_jamo b)) e in
    let two : (held && head) ≡ true = both_left (held && head) syllable three in
    record {
      held = both_left held head two;
      head = untrue (is_head t b) (both_right held head two);
      syllable = untrue (is_syllable b) (both_right (held && head) syllable three);
      jamo = untrue (is_jamo b) (both_right (held && head && syllable) (not (is_jamo b)) e);
    }

outer_fits_lem : (t : Table) (r : Headed) → outer_fits t r ≡ true → OuterFits t r
outer_fits_lem t r e =
    let pair = is_pair t r in
    let first = not (in_quick_check t (first_item r.items)) in
    let two : (pair && first) ≡ true = both_left (pair && first) (all (following t r) t.decompositions) e in
    let each : all (following t r) t.decompositions ≡ true = both_right (pair && first) (all (following t r) t.decompositions) e in
    record {
      paired = both_left pair first two;
      first = untrue (in_quick_check t (first_item r.items)) (both_right pair first two);
      behind = λ q m k. untrue (out_of_order t (second_item q.items) (second_item r.items)) (implied (eqb q.head (first_item r.items)) (not (out_of_order t (second_item q.items) (second_item r.items))) (all-at (following t r) m each) (eq-eqb q.head (first_item r.items) k));
    }

once-fits : (t : Table) (q r : Headed) → once_fits t q r ≡ true → is_pair t q ≡ true → is_pair t r ≡ true → q.items ≡ r.items → q.head ≡ r.head
once-fits t q r e a b i =
    eqb-true q.head r.head (implied (is_pair t q && is_pair t r && same_list q.items r.items) (eqb q.head r.head) e (rw (a, b, i) (list_same r.items)))

-- a table that passes the tests
pub tested_local : (t : Table) → Tested t → Local t
tested_local t k = record {
  some = k.some;
  rises = k.rises;
  plain = k.plain;
  spares = k.spares;
  levels = record {
    low = k.low;
    high = k.high;
    first = lifts_up t.decompositions (is_head t) k.low k.first;
    second = lifts_up t.decompositions k.low k.high k.second;
    last = lifts_up t.decompositions k.high (λ x. false) k.last;
  };
  vowels = range-holds t.quick_check 0x1161 0x1175 k.vowels;
  trailing = range-holds t.quick_check 0x11A8 0x11C2 k.trailing;
  seconds = λ r m p. second_fits_lem t (second_item r.items) (implied (is_pair t r) (second_fits t (second_item r.items)) (all-at (λ (x : Headed). implies (is_pair t x) (second_fits t (second_item x.items))) m k.seconds) p);
  outer = λ r m o. outer_fits_lem t r (implied (not (in_quick_check t r.head)) (outer_fits t r) (all-at (λ (x : Headed). implies (not (in_quick_check t x.head)) (outer_fits t x)) m k.outer) (rw o));
  once = λ q r m n. once-fits t q r (all-at (once_fits t q) n (all-at (λ (x : Headed). all (once_fits t x) t.decompositions) m k.once));
}
