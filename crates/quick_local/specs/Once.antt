-- Rule 7 from what the walks see.
use Rattle.std.specs.Prelude.{ℕ, suc, ◌≡◌, refl, Bool, true, false, not, ◌&&◌, ◌||◌, cond}
use Rattle.std.proofs.Common.{arith, ◌∙◌}
use mathlib.Core.List.{List, [], ◌∷◌, map, Memᴰ}
use Rattle.std.proofs.Math.Option.{none}
use Rattle.lists.specs.Lists.{all, any, distinct_lists, keep, mem, same_list}
use Rattle.lists.specs.Laws.{keep_member, mem_of, same-list}
use Rattle.lists.specs.Members.{Passing, all_of, any_passing}
use Rattle.lists.specs.Tests.{all_map, any-map, never, not_so}
use Rattle.table.specs.Table.{Table, Headed}
use Rattle.heads.specs.Heads.{rising}
use Rattle.heads.proofs.Rising.{rise_first}
use Rattle.text.specs.Hangul.{is_leading, is_vowel, is_trailing, is_jamo, is_open_syllable, hangul_pair}
use Rattle.text.specs.Composition.{is_pair}
use Rattle.text.specs.QuickCheck.{second_item}
use Rattle.soundness.specs.Pairs.{is_hangul_pair, rule7}
use Rattle.rule6_laws.specs.Stable.{head_member}
use Rattle.quick_local.specs.Local.{Local}
use Rattle.quick_local.specs.Depth.{rise_apart}

-- two records that pass and have equal items have equal heads
abbrev Once : (Headed → Bool) → List Headed → Type 0
Once p rs = (q r : Headed) → Memᴰ q rs → Memᴰ r rs → p q ≡ true → p r ≡ true → q.items ≡ r.items → q.head ≡ r.head

-- where heads ascend, such records are one
once-distinct : (p : Headed → Bool) (f : ℕ) (rs : List Headed) → rising f rs ≡ true → Once p rs → distinct_lists (map (λ (r : Headed). r.items) (keep p rs)) ≡ true
once-distinct p f [] h o = refl
once-distinct p f (r ∷ rs) h o =
    go (p r) refl (once-distinct p (suc r.head) rs (rise_first f r rs h).1 (λ x y m n. o x y (Memᴰ.tail m) (Memᴰ.tail n)))
  where
    kept : List (List ℕ)
    kept = map (λ (x : Headed). x.items) (keep p rs)

    same : Headed → Bool
    same q = same_list r.items q.items

    apart : p r ≡ true → any (same_list r.items) kept ≡ false
    apart e = any-map (same_list r.items) (λ (x : Headed). x.items) (keep p rs) ∙ not_so (any same (keep p rs)) (λ k. meets (any_passing same (keep p rs) k))
      where
        meets : Passing same (keep p rs) → ⊥
        meets q =
            let m = keep_member p rs q.element q.member in
            let i : r.items ≡ q.element.items = same-list r.items q.element.items q.passes in
            let k : r.head ≡ q.element.head = o r q.element (Memᴰ.head refl) (Memᴰ.tail m.0) e m.1 i in
            let others = map (λ (x : Headed). x.head) rs in
            never (mem r.head others) (rw k (mem_of q.element.head others (head_member rs q.element m.0))) (rise_apart (suc r.head) r.head rs (rise_first f r rs h).1 (omega arith))

    go : (b : Bool) → p r ≡ b → distinct_lists kept ≡ true → distinct_lists (map (λ (x : Headed). x.items) (cond b (r ∷ keep p rs) (keep p rs))) ≡ true
    go true e below = rw (apart e, below)
    go false e below = below

-- what is no jamo makes no Hangul pair with what stands before it
pub no_hangul : (a b : ℕ) → is_jamo b ≡ false → hangul_pair a b ≡ none
no_hangul a b h = let n = neither (is_leading b) (is_vowel b) (is_trailing b) h in rw (n.0, n.1, off (is_leading a), off (is_open_syllable a))
  where
    neither : (l v r : Bool) → (l || v || r) ≡ false → (v ≡ false) × (r ≡ false)
    neither true v r e = never true refl e
    neither false true r e = never true refl e
    neither false false r e = (refl, e)

    off : (x : Bool) → (x && false) ≡ false
    off true = refl
    off false = refl

items_apart : (s : List ℕ) → is_jamo (second_item s) ≡ false → is_hangul_pair s ≡ false
items_apart [] h = refl
items_apart (a ∷ []) h = refl
items_apart (a ∷ b ∷ s) h = rw (no_hangul a b h)

-- rule 7
pub found-rule7 : (t : Table) → Local t → rule7 t ≡ true
unfolding rule7
found-rule7 t h = rw (once-distinct (is_pair t) 0 t.decompositions h.rises h.once, apart)
  where
    kept : List Headed
    kept = keep (is_pair t) t.decompositions

    each : (r : Headed) → Memᴰ r kept → not (is_hangul_pair r.items) ≡ true
    each r m = let k = keep_member (is_pair t) t.decompositions r m in rw (items_apart r.items (h.seconds r k.0 k.1).jamo)

    apart : all (λ s. not (is_hangul_pair s)) (map (λ (r : Headed). r.items) kept) ≡ true
    apart =
        all_map (λ s. not (is_hangul_pair s)) (λ (r : Headed). r.items) kept ∙ all_of (λ (r : Headed). not (is_hangul_pair r.items)) kept each
