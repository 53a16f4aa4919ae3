-- What is found, put together.
use Prim.Native.Nat.{ℕ, ◌<◌}
use native.Mathlib.Omega.{arith}
use mathlib.Core.Path.{◌≡◌, refl, sym, ◌∙◌, ap, subst}
use mathlib.Core.Bool.{Bool, true, false, not, ◌&&◌, false≢true}
use mathlib.Core.List.Memᴰ
use mathlib.Core.List.{List, [], ◌∷◌, Memᴰ}
use mathlib.Core.Option.{Option, none, some}
use lib.ListN.{length, get_or}
use lib.Dec.{leb, eqb}
use borrow.Author.Tests.{leb-true}
use Rattle.lists.specs.Lists.{is_empty, mem}
use Rattle.lists.specs.Laws.{both_left, both_right, member_of}
use Rattle.lists.specs.Members.{all_of, any_passing, passing_any}
use Rattle.table.specs.Table.{Table, Headed, Range}
use Rattle.table.specs.Layout.{only_if, in_front, ranges, the_table}
use Rattle.table.specs.Spans.{within}
use Rattle.table.specs.Part.{heads_in}
use Rattle.table.proofs.Lookups.{within-length}
use Rattle.heads.specs.Heads.{rising}
use Rattle.sections.specs.declared.Sections.{Sections}
use Rattle.sections.specs.Laid.{Laid}
use Rattle.sections.proofs.SectionLaws.{laid-fits, laid_reads}
use Rattle.text.specs.Decomposition.{class_of}
use Rattle.text.specs.Composition.{is_two, first_item, is_pair}
use Rattle.soundness.specs.Pairs.{heads, plain_head}
use Rattle.sound_parts.specs.Parts.{all_triples, spares_triple}
use Rattle.sound_parts.proofs.Walks.{triples_all}
use Rattle.sound_parts.proofs.SectionsHold.{decompositions_hold, decompositions_are}
use Rattle.quick_local.specs.Local.{is_head, Levels, Local}
use Rattle.quick_filters.specs.Filter.{filter_words, holds}
use Rattle.quick_levels.specs.Walk.{Each, Few, HeadsNoted, HeadNoted, Apart}
use Rattle.quick_seconds.specs.Seconds.{HeadsHeld}
use Rattle.quick_records.specs.Fit.{PartOf, Fitting, Looked, JamoHeld, Decomposed}
use Rattle.quick_records.proofs.FitLaws.{set_of}

two_long : (s : List ℕ) → is_two s ≡ true → length s ≡ 2
two_long [] e = absurd (false≢true e)
two_long (a ∷ []) e = absurd (false≢true e)
two_long (a ∷ b ∷ []) e = refl
two_long (a ∷ b ∷ c ∷ s) e = absurd (false≢true e)

-- a composition pair has two items
two_items : (t : Table) (r : Headed) → is_pair t r ≡ true → length r.items ≡ 2
unfolding is_pair
two_items t r e =
    let two = is_two r.items in
    let in_set = not (mem r.head t.exclusions) in
    let head = eqb (class_of t r.head) 0 in
    let first = eqb (class_of t (first_item r.items)) 0 in
    two_long r.items (both_left two in_set (both_left (two && in_set) head (both_left (two && in_set && head) first e)))

some-none : (x : Range) (b : Bool) (o : Option (List Range)) → only_if b (in_front x o) ≡ some [] → ⊥
some-none x true none e = let z : ◌≡◌ {A = ℕ} 0 1 = cc in omega arith
some-none x true (some rs) e = let z : ◌≡◌ {A = ℕ} 0 1 = cc in omega arith
some-none x false o e = let z : ◌≡◌ {A = ℕ} 0 1 = cc in omega arith

-- the heads that were noted
module _ (t : Table) (part old new : List ℕ) (p : PartOf t part) (r : Bool) (ok : r ≡ true) (n : HeadsNoted part old new r) where
  each_head : Each (HeadNoted new) t.decompositions
  each_head = subst (λ (l : List Headed). Each (HeadNoted new) l) p.are (n.each ok)

  pub heads_few : Each Few t.decompositions
  heads_few x m = (each_head x m).few

  pub part_few : Each Few (heads_in part)
  part_few x m = (n.each ok x m).few

  pub heads_held : length old ≡ filter_words → HeadsHeld t new
  heads_held room = record { room = n.room ∙ room; each = λ c h. go c (Memᴰ.of_map (λ (x : Headed). x.head) t.decompositions (member_of c (heads t) h)) }
    where
      go : (c : ℕ) → (a : Headed) × Memᴰ a t.decompositions × (a.head ≡ c) → holds new c ≡ true
      go c q = rw (← q.2) (each_head q.0 q.1).noted

  pub decomposed : length old ≡ filter_words → Levels (heads_in part) (holds new) → Apart 2 (heads_in part) → Each (Fitting t) t.decompositions → Decomposed t
  decomposed room l o f =
      let k : Levels t.decompositions (holds new) = subst (λ (rs : List Headed). Levels rs (holds new)) p.are l in
      record {
        plain = λ x m. (each_head x m).plain;
        levels = record {
          low = k.low;
          high = k.high;
          first = λ r m e. let q = any_passing (is_head t) r.items e in k.first r m (passing_any (holds new) q.member ((heads_held room).each q.element q.passes));
          second = k.second;
          last = k.last;
        };
        once = subst (λ (rs : List Headed). Apart 2 rs) p.are o;
        fit = f;
      }

-- the first of four tests that all pass
pub first_of-four : (a b c d : Bool) → (a && b && c && d) ≡ true → a ≡ true
first_of-four a b c d e = both_left a b (both_left (a && b) c (both_left (a && b && c) d e))

-- the sections of a table that is looked at
module _ (ws : List ℕ) (ix : Sections) (l : Laid ws ix) (k : Looked ix) where
  pub part_of : PartOf (the_table ws) (within ix.decompositions ws)
  part_of =
      record {
        holds = decompositions_hold ws ix l;
        are = decompositions_are ws ix l;
        short = let f = (laid-fits ws ix l).decompositions in omega (arith, within-length ws ix.decompositions f, k.short, f.ordered);
      }

  pub heads_rise : rising 0 (the_table ws).decompositions ≡ true
  heads_rise = rw (decompositions_are ws ix l) at (l.known.decompositions.rise k.sorted)

  not_empty : (vs : List ℕ) (rs : List Range) → 0 < length vs → ranges vs ≡ some rs → is_empty rs ≡ false
  unfolding ranges
  not_empty [] rs h e = absurd (omega arith)
  not_empty (a ∷ []) rs h e = absurd (let z : ◌≡◌ {A = ℕ} 0 1 = cc in omega arith)
  not_empty (a ∷ b ∷ vs) rs h e = go rs e
    where
      go : (rs : List Range) → ranges (a ∷ b ∷ vs) ≡ some rs → is_empty rs ≡ false
      go [] e = absurd (some-none (record { first = a; last = b }) (leb a b) (ranges vs) e)
      go (r ∷ rs) e = refl

  pub local : (r : Bool) → r ≡ all_triples spares_triple (within ix.classes ws) → r ≡ true → JamoHeld (within ix.quick ws) → Decomposed (the_table ws) → Local (the_table ws)
  local r e ok j d =
      let t = the_table ws in
      record {
        some = let f = (laid-fits ws ix l).quick in not_empty (within ix.quick ws) t.quick_check (omega (arith, within-length ws ix.quick f, k.some)) (laid_reads ws ix l).quick;
        rises = heads_rise;
        plain = all_of plain_head (heads t) (λ c m. plain_head_lem c (Memᴰ.of_map (λ (r : Headed). r.head) t.decompositions m));
        spares = sym (sym ok ∙ e ∙ triples_all spares_triple (within ix.classes ws) t.classes (laid_reads ws ix l).classes);
        levels = d.levels;
        vowels = λ c h. sym (set_of ws ix l c) ∙ j.vowels c (leb-true 0x1161 c (both_left (leb 0x1161 c) (leb c 0x1175) h)) (leb-true c 0x1175 (both_right (leb 0x1161 c) (leb c 0x1175) h));
        trailing = λ c h. sym (set_of ws ix l c) ∙ j.trailing c (leb-true 0x11A8 c (both_left (leb 0x11A8 c) (leb c 0x11C2) h)) (leb-true c 0x11C2 (both_right (leb 0x11A8 c) (leb c 0x11C2) h));
        seconds = λ r m p. (d.fit r m).second p;
        outer = λ r m o. (d.fit r m).outer o;
        once = λ q r m n a b s. d.once q r m n (two_items t q a) (two_items t r b) (ap (λ (z : List ℕ). get_or z 0 0) s) (ap (λ (z : List ℕ). get_or z 1 0) s);
      }
    where
      plain_head_lem : (c : ℕ) → (a : Headed) × Memᴰ a (the_table ws).decompositions × (a.head ≡ c) → plain_head c ≡ true
      plain_head_lem c q = rw (← q.2) (d.plain q.0 q.1)
