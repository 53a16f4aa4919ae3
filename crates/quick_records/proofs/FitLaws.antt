-- Laws of what is asked of each decomposition.
use Prim.Native.Nat.{ℕ, zero, suc, ◌+◌, ◌≤◌}
use native.Mathlib.Omega.{arith}
use mathlib.Core.Path.{◌≡◌, refl, sym, ◌∙◌, ap, subst}
use mathlib.Core.Bool.{Bool, true, false, not, ◌||◌, cond}
use mathlib.Core.Logic.{◌⊎◌, inl, inr}
use mathlib.Core.List.Memᴰ
use mathlib.Core.List.{List, [], ◌∷◌, Memᴰ}
use lib.ListN.{length, get_or, replicate, length-replicate}
use lib.Dec.{eqb}
use borrow.Author.Tests.{eq-eqb, eqb-true}
use Rattle.lists.specs.Lists.{mem}
use Rattle.lists.specs.Tests.{never}
use Rattle.table.specs.Table.{Table, Headed}
use Rattle.table.specs.Layout.{the_table}
use Rattle.table.specs.Lookup.{in_quick_check, table_class}
use Rattle.table.specs.Spans.{within}
use Rattle.table.specs.Part.{in_pairs, class_among, heads_in}
use Rattle.table.proofs.Lookups.{pairs-ranges, class-ranges}
use Rattle.halving.specs.Halving.{FirstCovers}
use Rattle.heads.specs.Heads.{rising}
use Rattle.halving.specs.Stride.{pairs_covers, triples_covers, items_covers}
use Rattle.sections.specs.declared.Sections.{Sections}
use Rattle.sections.specs.Laid.{Laid}
use Rattle.sections.proofs.SectionLaws.{laid_reads}
use Rattle.sections.proofs.LaidParts.{laid-excluded}
use Rattle.text.specs.Hangul.{is_syllable, is_jamo}
use Rattle.text.specs.Decomposition.{class_of}
use Rattle.text.specs.Composition.{is_two, is_pair}
use Rattle.sound_parts.specs.Parts.{record_of}
use Rattle.unpaired.specs.Unpaired.{may_compose}
use Rattle.quick_filters.specs.Filter.{filter_words, holds, RunsNoted}
use Rattle.quick_levels.specs.Walk.{Each, Few, Indexed}
use Rattle.quick_records.specs.Fit.{PartOf, SetOf, Cleared, ByHead, Behind, Composing, RecordAsked, Fitting}
use Rattle.quick_seconds.specs.Seconds.{Good, SecondAsked}
use Rattle.quick_filters.proofs.FilterLaws.{was_clear}

or_false : (a b : Bool) → (a || b) ≡ false → (a ≡ false) × (b ≡ false)
or_false true b e = absurd (never true refl e)
or_false false b e = (refl, e)

-- the head and the first item, of which nothing is said
pub composes_clear : (t : Table) (said : List ℕ) (head a : ℕ) (x y : Bool) → Cleared t said → x ≡ holds said head → y ≡ holds said a → (x || y) ≡ false → Composing t head a
composes_clear t said head a x y w p q e =
    let f = or_false x y e in
    let h = w.clear head (sym p ∙ f.0) in
    let k = w.clear a (sym q ∙ f.1) in
    record { pair = rw (h.excluded, h.class, k.class, eq-eqb 0 0 refl); outside = k.outside }

pair_is : (t : Table) (head a b : ℕ) → is_pair t (record_of head (a ∷ b ∷ [])) ≡ may_compose t head a
unfolding is_pair
pair_is t head a b = refl

-- a record of two items
module _ (t : Table) (good : List ℕ) (inside : Bool) (head a b : ℕ) (r : Bool) (s : SecondAsked t good b r) where
  x : Headed
  x = record_of head (a ∷ b ∷ [])

  pub record_not : (y : Headed) → RecordAsked t good inside y false
  record_not y = record { kept = s.kept; fits = λ e. never true refl (sym e) }

  pub record_unpaired : inside ≡ true → (p : Bool) → p ≡ may_compose t head a → RecordAsked t good inside (record_of head (a ∷ b ∷ [])) (not p)
  record_unpaired i p e =
      record {
        kept = s.kept;
        fits = λ k. record { second = λ q. never p (e ∙ sym (pair_is t head a b) ∙ q) (no p k); outer = λ o. never inside i o };
      }
    where
      no : (b : Bool) → not b ≡ true → b ≡ false
      no true k = sym k
      no false k = refl

  pub record_inside : inside ≡ true → r ≡ true → RecordAsked t good inside (record_of head (a ∷ b ∷ [])) true
  record_inside i e = record { kept = s.kept; fits = λ k. record { second = λ q. s.fits e; outer = λ o. never inside i o } }

  pub record_outside : r ≡ true → Composing t head a → (v : Bool) → (v ≡ true → Behind t a b) → RecordAsked t good inside (record_of head (a ∷ b ∷ [])) v
  record_outside e c v f =
      record {
        kept = s.kept;
        fits = λ k. record { second = λ q. s.fits e; outer = λ o. record { paired = pair_is t head a b ∙ c.pair; first = c.outside; behind = f k } };
      }

-- a record, by its number of items
module _ (t : Table) (good : List ℕ) (inside : Bool) (head : ℕ) (items : List ℕ) where
  not_two : (s : List ℕ) → (length s ≡ 2 → ⊥) → is_two s ≡ false
  not_two [] e = refl
  not_two (a ∷ []) e = refl
  not_two (a ∷ b ∷ []) e = absurd (e refl)
  not_two (a ∷ b ∷ c ∷ s) e = refl

  pub other_number : Good t good → (length items ≡ 2 → ⊥) → RecordAsked t good inside (record_of head items) inside
  unfolding is_pair
  other_number g e =
      let f : is_two items ≡ false = not_two items e in
      record { kept = g; fits = λ k. record { second = λ q. never true refl (sym (sym (rw f) ∙ q)); outer = λ o. never inside k o } }

  pub two_items : (r : Bool) → length items ≡ 2 → RecordAsked t good inside (record_of head (get_or items 0 0 ∷ get_or items 1 0 ∷ [])) r
      → RecordAsked t good inside (record_of head items) r
  two_items r e k = rw (two items e) k
    where
      two : (s : List ℕ) → length s ≡ 2 → s ≡ get_or s 0 0 ∷ get_or s 1 0 ∷ []
      two [] e = absurd (omega arith)
      two (a ∷ []) e = absurd (omega arith)
      two (a ∷ b ∷ []) e = refl
      two (a ∷ b ∷ c ∷ s) e = absurd (omega arith)

-- a record was judged, with its head in the set or outside
pub record Judged (t : Table) (good : List ℕ) (x : Headed) (r : Bool) : Type 0 where
  pub kept : Good t good
  pub fits : r ≡ true → Fitting t x

pub judged_inside : (t : Table) (good set : List ℕ) (x : Headed) (r : Bool) → SetOf t set → ((c : ℕ) → x.head ≤ c → c ≤ x.head → in_pairs c set ≡ true)
    → RecordAsked t good true x r → Judged t good x r
judged_inside t good set x r s c a =
    record {
      kept = a.kept;
      fits = λ e. record { second = (a.fits e).second; outer = λ o. never (in_quick_check t x.head) (sym (s x.head) ∙ c x.head (omega arith) (omega arith)) o };
    }

pub judged_outside : (t : Table) (good : List ℕ) (x : Headed) (r : Bool) → RecordAsked t good false x r → Judged t good x r
judged_outside t good x r a = record { kept = a.kept; fits = λ e. record { second = (a.fits e).second; outer = λ o. (a.fits e).outer refl } }

-- A walk over the decompositions has come so far that all of them fit where those that are left do.
abbrev pub Decides : Table → List Headed → Type 0
Decides t left = Each (Fitting t) left → Each (Fitting t) t.decompositions

pub decides_start : (t : Table) (part : List ℕ) (left : List Headed) → PartOf t part → left ≡ heads_in part → Decides t left
decides_start t part left p e f = subst (λ (l : List Headed). Each (Fitting t) l) (e ∙ p.are) f

module _ (t : Table) (left : List Headed) (w : Decides t left) where
  pub decides_more : (x : Headed) (later : List Headed) → left ≡ x ∷ later → Fitting t x → Decides t later
  decides_more x later e k f = w (λ y m. one y (Memᴰ.cases_cons (rw e at m)))
    where
      one : (y : Headed) → (y ≡ x) ⊎ Memᴰ y later → Fitting t y
      one y (inl q) = rw q k
      one y (inr m) = f y m

  pub decides_all : left ≡ [] → Each (Fitting t) t.decompositions
  decides_all e = w (λ y m. absurd (Memᴰ.not-nil (rw e at m)))

-- what the other sections say nothing of
pub set_of : (ws : List ℕ) (ix : Sections) → Laid ws ix → SetOf (the_table ws) (within ix.quick ws)
set_of ws ix l c = pairs-ranges c (within ix.quick ws) (the_table ws).quick_check (laid_reads ws ix l).quick

zero_covers : (c : ℕ) → FirstCovers 3 1 c (λ ws. eqb (class_among c ws) 0) true (λ ws i. eqb (get_or ws (i + 2) 0) 0)
zero_covers c =
    let w = triples_covers c in
    record {
      hit = λ ws i h x y. ap (λ (k : ℕ). eqb k 0) (w.hit ws i h x y);
      miss = λ ws i h n. ap (λ (k : ℕ). eqb k 0) (w.miss ws i h n);
      end = λ ws i h. ap (λ (k : ℕ). eqb k 0) (w.end ws i h) ∙ eq-eqb 0 0 refl;
    }

module _ (ws : List ℕ) (ix : Sections) (l : Laid ws ix) (a b c d : List ℕ) (x y z : Bool) where
  pub said_clear : length a ≡ filter_words → RunsNoted 2 1 (within ix.quick ws) a b x → x ≡ true → RunsNoted 3 1 (within ix.classes ws) b c y → y ≡ true
      → RunsNoted 1 0 (within (record { from = ix.exclusions.from + 1; to = ix.exclusions.to }) ws) c d z → z ≡ true → Cleared (the_table ws) d
  unfolding class_of
  said_clear room p e q f r g =
      record {
        room = r.grown.room ∙ q.grown.room ∙ p.grown.room ∙ room;
        clear = λ k n.
            let m : holds c k ≡ false = was_clear c d k r.grown n in
            record {
              excluded = ap (mem k) (sym (laid-excluded ws ix l).same) ∙ (r.skips g).none k (mem k) false (λ vs i. true) (items_covers k) n;
              class = none k (is_syllable k || is_jamo k) (eqb-true _ _ ((q.skips f).none k (λ vs. eqb (class_among k vs) 0) true (λ vs i. eqb (get_or vs (i + 2) 0) 0) (zero_covers k) m));
              outside = sym (set_of ws ix l k) ∙ (p.skips e).none k (in_pairs k) false (λ vs i. true) (pairs_covers k) (was_clear b c k q.grown m);
            };
      }
    where
      none : (k : ℕ) (h : Bool) → class_among k (within ix.classes ws) ≡ 0 → cond h 0 (table_class (the_table ws).classes k) ≡ 0
      none k true e = refl
      none k false e = sym (class-ranges k (within ix.classes ws) (the_table ws).classes (laid_reads ws ix l).classes) ∙ e

-- nothing is kept yet
pub good_none : (t : Table) → Good t (replicate 257 0)
good_none t = record { room = length-replicate {A = ℕ} 257 0; each = λ i s n. absurd (n (zeros 257 i)) }
  where
    zeros : (k i : ℕ) → ◌≡◌ {A = ℕ} (get_or (replicate k 0) i 0) 0
    zeros zero i = refl
    zeros (suc k) zero = refl
    zeros (suc k) (suc i) = zeros k i

pub by_head : (t : Table) (part slots : List ℕ) → PartOf t part → rising 0 t.decompositions ≡ true → Each Few t.decompositions → class_of t 0 ≡ 0 → Indexed part 0 slots → ByHead t part slots
by_head t part slots p r f z i = record { of = p; index = i; rises = r; few = f; zero = z }
