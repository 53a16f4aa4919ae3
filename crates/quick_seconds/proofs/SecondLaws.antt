-- Laws of second items.
use Prim.Native.Nat.{ℕ, ◌<◌}
use native.Mathlib.Omega.{arith}
use mathlib.Core.Path.{◌≡◌, refl, sym, ◌∙◌, ap}
use mathlib.Core.Bool.{Bool, true, false, not}
use mathlib.Core.List.Memᴰ
use mathlib.Core.List.{List, Memᴰ}
use mathlib.Core.Option.{Option, none, some, map, none-ne-some}
use lib.ListN.{length, get_or, set, length-set}
use lib.Seq.{get_or-set_same, get_or-set_other}
use lib.Dec.{eqb}
use borrow.Author.Tests.{eqb-true, eqb-false, eq-eqb}
use Rattle.lists.specs.Lists.{first_with}
use Rattle.lists.specs.Laws.{member_of}
use Rattle.lists.specs.Tests.{never, not_so}
use Rattle.table.specs.Table.{Table, Headed}
use Rattle.table.specs.Layout.{most_parts}
use Rattle.table.specs.Lookup.{in_quick_check, items_of}
use Rattle.table.specs.Part.{ItemsFound}
use Rattle.std.specs.declared.option.Option as rust
use Rattle.std.specs.declared.option.Option.TheVariants.{Some, None}
use Rattle.std.specs.Option.{is_some}
use Rattle.table.specs.declared.Span.{Span}
use Rattle.table.proofs.Searches.{items_missing}
use Rattle.text.specs.Hangul.{is_syllable, is_jamo}
use Rattle.quick_local.specs.Local.{is_head, SecondFits}
use Rattle.quick_local.specs.Chains.{first-none}
use Rattle.soundness.specs.Pairs.{heads}
use Rattle.quick_filters.specs.Filter.{holds}
use Rattle.quick_seconds.specs.Seconds.{HeadsHeld, Good, HeadAsked, SecondAsked}

-- no record has the head c, by the filter or by the section
pub held_none : (t : Table) (heads : List ℕ) (c : ℕ) → HeadsHeld t heads → holds heads c ≡ false → is_head t c ≡ false
held_none t heads c h e = not_so (is_head t c) (λ k. never (holds heads c) (h.each c k) e)

pub none_is : (r : rust.Option Span) (b : Bool) → is_some r ≡ not b → b ≡ true → r ≡ None
none_is None b e f = refl
none_is (Some s) b e f = absurd (never true refl (e ∙ ap not f))

pub no_record : (t : Table) (ws : List ℕ) (c : ℕ) (r : rust.Option Span) → ItemsFound ws most_parts (items_of t.decompositions c) r → r ≡ None → is_head t c ≡ false
unfolding items_of
no_record t ws c r f e = not_so (is_head t c) (λ k. entry (Memᴰ.of_map (λ (x : Headed). x.head) t.decompositions (member_of c (heads t) k)))
  where
    at : Headed → Bool
    at x = eqb x.head c

    missing : (o : Option Headed) → map (λ (x : Headed). x.items) o ≡ none → o ≡ none
    missing none q = refl
    missing (some x) q = absurd (none-ne-some x.items (sym q))

    entry : (x : Headed) × Memᴰ x t.decompositions × (x.head ≡ c) → ⊥
    entry q = first-none at q.1 (eq-eqb q.0.head c q.2) (missing (first_with at t.decompositions) (items_missing ws most_parts _ r f e))

-- the count of questions is no second item
good_counted : (t : Table) (good : List ℕ) (v : ℕ) → Good t good → Good t (set good 256 v)
good_counted t good v g =
    record {
      room = length-set good 256 v ∙ g.room;
      each = λ j s n.
          let e : get_or (set good 256 v) j 0 ≡ get_or good j 0 = get_or-set_other good 256 j v 0 (λ q. omega arith) in
          rw e (g.each j s (λ z. n (e ∙ z)));
    }

module _ (t : Table) (good : List ℕ) (b : ℕ) (g : Good t good) where
  pub head_by_filter : is_head t b ≡ false → HeadAsked t good b true
  head_by_filter h = record { kept = g; none = λ e. h }

  pub head_not : HeadAsked t good b false
  head_not = record { kept = g; none = λ e. never true refl (sym e) }

  pub head_by_section : (v : ℕ) (r : Bool) → (r ≡ true → is_head t b ≡ false) → HeadAsked t (set good 256 v) b r
  head_by_section v r h = record { kept = good_counted t good v g; none = h }

-- a second item, asked anew
pub second_anew : (t : Table) (good : List ℕ) (b : ℕ) (r : Bool) → is_syllable b ≡ false → is_jamo b ≡ false → in_quick_check t b ≡ true → HeadAsked t good b r → SecondAsked t good b r
second_anew t good b r s j q h = record { kept = h.kept; fits = λ e. record { held = q; head = h.none e; syllable = s; jamo = j } }

module _ (t : Table) (good : List ℕ) (b : ℕ) (g : Good t good) where
  pub second_not : SecondAsked t good b false
  second_not = record { kept = g; fits = λ e. never true refl (sym e) }

  pub second-kept : (i : ℕ) → (b ≡ 0 → ⊥) → get_or good i 0 ≡ b → i < 256 → SecondAsked t good b true
  second-kept i n e s = record { kept = g; fits = λ k. rw e at (g.each i s (λ z. n (sym e ∙ z))) }

  pub second_new : (i : ℕ) → i < 256 → SecondFits t b → SecondAsked t (set good i b) b true
  second_new i h f = record { kept = record { room = length-set good i b ∙ g.room; each = λ j s n. go j s n (eqb j i) refl }; fits = λ k. f }
    where
      inside : i < length good
      inside = omega (arith, g.room)

      go : (j : ℕ) → j < 256 → (get_or (set good i b) j 0 ≡ 0 → ⊥) → (x : Bool) → eqb j i ≡ x → SecondFits t (get_or (set good i b) j 0)
      go j s n true e = rw (eqb-true j i e, get_or-set_same good i b 0 inside) f
      go j s n false e =
          let o : get_or (set good i b) j 0 ≡ get_or good j 0 = get_or-set_other good i j b 0 (eqb-false j i e) in
          rw o (g.each j s (λ z. n (o ∙ z)))
