-- What the words of a laid-out table hold: the places of its sections, and the entries that each section's words spell.
use Prim.Native.Nat.{ℕ, zero, suc, ◌+◌, ◌-◌, ◌≤◌, ◌<◌}
use native.Mathlib.Omega.{arith}
use native.Mathlib.Numerals.{add-one}
use mathlib.Core.Path.{◌≡◌, refl, sym, ap, ◌∙◌}
use mathlib.Core.Bool.{Bool, true, false, cond, and-false}
use mathlib.Core.List.{List, [], ◌∷◌, map}
use mathlib.Core.Option.{Option, none, some}
use lib.ListN.{length, get_or, take, drop, length-drop, drop_of_length-le}
use lib.Seq.{drop-cons, drop-drop}
use lib.Dec.{leb, ltb, eqb}
use borrow.Author.Tests.{ltb-true, ltb-false, leb-true, leb-false, eqb-true, lt-ltb, le-leb, lt-leb, eq-eqb, ne_eqb}
use Rattle.lists.specs.Lists.{is_some, and_then}
use Rattle.table.specs.declared.Span.{Span}
use Rattle.sections.specs.declared.Sections.{Sections}
use Rattle.sections.specs.declared.Sorted.{Sorted}
use Rattle.sections.specs.declared.Starts.{Starts}
use Rattle.table.specs.Table.{Table}
use Rattle.table.specs.Layout.{most_items, most_parts, most_groups, section_count, most_words, only_if, in_front, sections, ranges, class_ranges, headed, sequences, excluded, groups, wholes, table_of, parse, the_table}
use Rattle.table.specs.Spans.{within, Fits}
use Rattle.sections.specs.Known.{none_sorted, no_starts}
use Rattle.sections.specs.Laid.{span_at, sections_of, bare, last_end, AllFit, Laid, parts_of}

-- k sections from `at` on, and where the last one ends
spans : ℕ → List ℕ → ℕ → List Span
spans zero ws at = []
spans (suc k) ws at = span_at ws at ∷ spans k ws (span_at ws at).to

end_of : ℕ → List ℕ → ℕ → ℕ
end_of zero ws at = at
end_of (suc k) ws at = end_of k ws (span_at ws at).to

-- A section whose end is within the words: it starts behind its count, and its count stands within the words.
record Good (ws : List ℕ) (at : ℕ) : Type 0 where
  begins : at < length ws
  from : (span_at ws at).from ≡ at + 1
  to : (span_at ws at).to ≡ at + 1 + get_or ws at 0
  inside : at + 1 + get_or ws at 0 ≤ length ws

-- the section whose count stands at `at`
pub span_there : (ws : List ℕ) (at : ℕ) → at < length ws → at + 1 + get_or ws at 0 ≤ length ws → record { from = at + 1; to = at + 1 + get_or ws at 0 } ≡ span_at ws at
unfolding span_at
span_there ws at h i = rw (lt-ltb at (length ws) h, le-leb (at + 1 + get_or ws at 0) (length ws) i)

-- no section there
pub span_none : (ws : List ℕ) (at : ℕ) → length ws < at + 1 + get_or ws at 0 → record { from = length ws + 1; to = length ws + 1 } ≡ span_at ws at
unfolding span_at
span_none ws at h = rw (lt-leb (at + 1 + get_or ws at 0) (length ws) h, and-false (ltb at (length ws)))

span_good : (ws : List ℕ) (at : ℕ) → at < length ws → at + 1 + get_or ws at 0 ≤ length ws → Good ws at
span_good ws at h i = let e = span_there ws at h i in record { begins = h; from = rw (← e); to = rw (← e); inside = i }

span_bad : (ws : List ℕ) (at : ℕ) → length ws < at + 1 + get_or ws at 0 → (span_at ws at).to ≡ length ws + 1
span_bad ws at h = rw (← span_none ws at h)

span-past : (ws : List ℕ) (at : ℕ) → length ws ≤ at → (span_at ws at).to ≡ length ws + 1
span-past ws at h = span_bad ws at (omega arith)

-- behind the end of the words no section is found
end_past : (k : ℕ) (ws : List ℕ) (at : ℕ) → length ws < at → length ws < end_of k ws at
unfolding end_of
end_past zero ws at h = h
end_past (suc k) ws at h = end_past k ws (span_at ws at).to (omega (arith, span-past ws at (omega arith)))

front_cond : {A : Type 0} (b : Bool) (x : A) (xs : List A) → in_front x (cond b (some xs) none) ≡ cond b (some (x ∷ xs)) none
front_cond true x xs = refl
front_cond false x xs = refl

-- the words of the k spans from `at` on, where the last of them ends with the words
at_spans : ℕ → List ℕ → ℕ → Option (List (List ℕ))
at_spans k ws at = cond (eqb (end_of k ws at) (length ws)) (some (map (λ s. within s ws) (spans k ws at))) none

no_section : (k : ℕ) (ws : List ℕ) (at : ℕ) → length ws < (span_at ws at).to → none ≡ at_spans (suc k) ws at
unfolding at_spans end_of
no_section k ws at h =
    let past : length ws < end_of k ws (span_at ws at).to = end_past k ws (span_at ws at).to h in
    rw (ne_eqb (end_of k ws (span_at ws at).to) (length ws) (λ q. omega arith))

-- one section more in front
front_spans : (k : ℕ) (ws : List ℕ) (at : ℕ) → in_front (within (span_at ws at) ws) (at_spans k ws (span_at ws at).to) ≡ at_spans (suc k) ws at
unfolding at_spans end_of spans
front_spans k ws at = front_cond (eqb (end_of k ws (span_at ws at).to) (length ws)) (within (span_at ws at) ws) (map (λ s. within s ws) (spans k ws (span_at ws at).to))

-- the section at `at`, of which the words are the count and then the section
section_step : (k : ℕ) (ws : List ℕ) (at : ℕ) → at < length ws →
    ((n : ℕ) → n ≤ length ws → sections k (drop n ws) ≡ at_spans k ws n) → sections (suc k) (get_or ws at 0 ∷ drop (suc at) ws) ≡ at_spans (suc k) ws at
unfolding sections
section_step k ws at h ih = go (leb (get_or ws at 0) (length (drop (suc at) ws))) refl
  where
    good : get_or ws at 0 ≤ length (drop (suc at) ws) → Good ws at
    good i = span_good ws at h (omega (arith, length-drop (suc at) ws))

    words : Good ws at → within (span_at ws at) ws ≡ take (get_or ws at 0) (drop (suc at) ws)
    words g =
        let m : at + 1 + get_or ws at 0 - (at + 1) ≡ get_or ws at 0 = omega arith in
        rw (g.from, g.to, m, add-one)

    rest : Good ws at → drop (span_at ws at).to ws ≡ drop (get_or ws at 0) (drop (suc at) ws)
    rest g = rw (g.to, drop-drop, add-one)

    go : (b : Bool) → leb (get_or ws at 0) (length (drop (suc at) ws)) ≡ b →
        only_if b (in_front (take (get_or ws at 0) (drop (suc at) ws)) (sections k (drop (get_or ws at 0) (drop (suc at) ws)))) ≡ at_spans (suc k) ws at
    go true e =
        let g : Good ws at = good (leb-true _ _ e) in
        rw (← words g, ← rest g, ih (span_at ws at).to (omega arith)) (front_spans k ws at)
    go false e = no_section k ws at (omega (arith, span_bad ws at (omega (arith, leb-false (get_or ws at 0) _ e, length-drop (suc at) ws))))

-- the k sections from `at` on are the words of the k spans from there
sections_spans : (k : ℕ) (ws : List ℕ) (at : ℕ) → at ≤ length ws → sections k (drop at ws) ≡ at_spans k ws at
unfolding sections at_spans spans end_of
sections_spans zero ws at h = go (ltb at (length ws)) refl
  where
    go : (b : Bool) → ltb at (length ws) ≡ b → sections zero (drop at ws) ≡ at_spans zero ws at
    go true e = rw (drop-cons ws at 0 (ltb-true _ _ e), ne_eqb at (length ws) (λ q. omega (arith, ltb-true at (length ws) e)))
    go false e =
        let f : length ws ≤ at = ltb-false _ _ e in
        rw (drop_of_length-le ws f, eq-eqb at (length ws) (omega arith))
sections_spans (suc k) ws at h = go (λ n i. sections_spans k ws n i) (ltb at (length ws)) refl
  where
    go : ((n : ℕ) → n ≤ length ws → sections k (drop n ws) ≡ at_spans k ws n) → (b : Bool) → ltb at (length ws) ≡ b → sections (suc k) (drop at ws) ≡ at_spans (suc k) ws at
    go ih true e = rw (drop-cons ws at 0 (ltb-true _ _ e)) (section_step k ws at (ltb-true _ _ e) ih)
    go ih false e =
        let f : length ws ≤ at = ltb-false _ _ e in
        rw (drop_of_length-le ws f) (no_section k ws at (omega (arith, span-past ws at f)))

-- the sections, where the last of the places ends with the words
pub sections-found : (ws : List ℕ) → sections section_count ws ≡ cond (eqb (last_end (sections_of ws)) (length ws)) (some (parts_of ws (sections_of ws))) none
unfolding at_spans end_of spans sections_of parts_of
sections-found ws = sections_spans section_count ws 0 (omega arith)

-- the sections, found one behind the other
pub sections-chain : (ws : List ℕ) (a b c d e f g h i j k l m n : Span) →
    a ≡ span_at ws 0 →
    b ≡ span_at ws a.to →
    c ≡ span_at ws b.to →
    d ≡ span_at ws c.to →
    e ≡ span_at ws d.to →
    f ≡ span_at ws e.to →
    g ≡ span_at ws f.to →
    h ≡ span_at ws g.to →
    i ≡ span_at ws h.to →
    j ≡ span_at ws i.to →
    k ≡ span_at ws j.to →
    l ≡ span_at ws k.to →
    m ≡ span_at ws l.to →
    n ≡ span_at ws m.to →
    (x : Sorted) (y : Starts) → x ≡ none_sorted → y ≡ no_starts →
    record { valid = a; ignored = b; fenced = c; marks = d; nsm = e; mapped = f; decompositions = g; emoji = h; exclusions = i; classes = j; groups = k; wholes = l; escape = m; quick = n; sorted = x; starts = y } ≡ sections_of ws
unfolding sections_of
sections-chain ws a b c d e f g h i j k l m n a₁ b₁ c₁ d₁ e₁ f₁ g₁ h₁ i₁ j₁ k₁ l₁ m₁ n₁ x y x₁ y₁ = rw (x₁, y₁, n₁, m₁, l₁, k₁, j₁, i₁, h₁, g₁, f₁, e₁, d₁, c₁, b₁, a₁)

-- a section that ends within the words lies within them, and so does the end of the one before it
record Back (ws : List ℕ) (at : ℕ) : Type 0 where
  fits : Fits ws (span_at ws at)
  earlier : at ≤ length ws

back : (ws : List ℕ) (at : ℕ) → (span_at ws at).to ≤ length ws → Back ws at
back ws at h = go (leb (at + 1 + get_or ws at 0) (length ws)) refl
  where
    go : (b : Bool) → leb (at + 1 + get_or ws at 0) (length ws) ≡ b → Back ws at
    go true e =
        let i : at + 1 + get_or ws at 0 ≤ length ws = leb-true _ _ e in
        let g : Good ws at = span_good ws at (omega arith) i in
        record { fits = record { ordered = omega arith; inside = h }; earlier = omega arith }
    go false e = absurd (omega (arith, span_bad ws at (leb-false _ _ e)))

-- where the last section ends with the words, each lies within them
pub sections_fit : (ws : List ℕ) → last_end (sections_of ws) ≡ length ws → AllFit ws (sections_of ws)
unfolding sections_of
sections_fit ws e =
    let ix = sections_of ws in
    let n = back ws ix.escape.to (omega arith) in
    let m = back ws ix.wholes.to n.earlier in
    let l = back ws ix.groups.to m.earlier in
    let k = back ws ix.classes.to l.earlier in
    let j = back ws ix.exclusions.to k.earlier in
    let i = back ws ix.emoji.to j.earlier in
    let h = back ws ix.decompositions.to i.earlier in
    let g = back ws ix.mapped.to h.earlier in
    let f = back ws ix.nsm.to g.earlier in
    let e₁ = back ws ix.marks.to f.earlier in
    let d = back ws ix.fenced.to e₁.earlier in
    let c = back ws ix.ignored.to d.earlier in
    let b = back ws ix.valid.to c.earlier in
    let a = back ws 0 b.earlier in
    record {
      valid = a.fits;
      ignored = b.fits;
      fenced = c.fits;
      marks = d.fits;
      nsm = e₁.fits;
      mapped = f.fits;
      decompositions = g.fits;
      emoji = h.fits;
      exclusions = i.fits;
      classes = j.fits;
      groups = k.fits;
      wholes = l.fits;
      escape = m.fits;
      quick = n.fits;
    }

-- The words of each section spell the table's entries.
pub record Reads (ws : List ℕ) (ix : Sections) (t : Table) : Type 0 where
  pub valid : ranges (within ix.valid ws) ≡ some t.valid
  pub ignored : ranges (within ix.ignored ws) ≡ some t.ignored
  pub fenced : ranges (within ix.fenced ws) ≡ some t.fenced
  pub marks : ranges (within ix.marks ws) ≡ some t.marks
  pub nsm : ranges (within ix.nsm ws) ≡ some t.nsm
  pub mapped : headed (length (within ix.mapped ws)) most_items (within ix.mapped ws) ≡ some t.mapped
  pub decompositions : headed (length (within ix.decompositions ws)) most_parts (within ix.decompositions ws) ≡ some t.decompositions
  pub emoji : sequences (length (within ix.emoji ws)) (within ix.emoji ws) ≡ some t.emoji
  pub exclusions : excluded (within ix.exclusions ws) ≡ some t.exclusions
  pub classes : class_ranges (within ix.classes ws) ≡ some t.classes
  pub groups : groups (length (within ix.groups ws)) (within ix.groups ws) ≡ some t.groups
  pub wholes : wholes (length (within ix.wholes ws)) (within ix.wholes ws) ≡ some t.wholes
  pub escape : ranges (within ix.escape ws) ≡ some t.escape
  pub quick : ranges (within ix.quick ws) ≡ some t.quick_check
  pub few : length t.groups ≤ most_groups

-- what follows where both steps gave something
both : {A B C : Type 0} (o : Option A) (f : A → Option B) (b : B) → and_then o f ≡ some b → ((a : A) → o ≡ some a → f a ≡ some b → C) → C
both none f b e k = let z : ◌≡◌ {A = ℕ} 0 1 = cc in absurd (omega arith)
both (some a) f b e k = k a refl e

only : {A : Type 0} (t : Bool) (a b : A) → only_if t (some a) ≡ some b → (t ≡ true) × (a ≡ b)
only true a b e = (refl, cc)
only false a b e = let z : ◌≡◌ {A = ℕ} 0 1 = cc in absurd (omega arith)

table_reads : (ws : List ℕ) (ix : Sections) (t : Table) → table_of (parts_of ws ix) ≡ some t → Reads ws ix t
unfolding table_of parts_of
table_reads ws ix t e =
    both (ranges (within ix.valid ws)) _ t e λ va ea ra.
    both (ranges (within ix.ignored ws)) _ t ra λ vb eb rb.
    both (ranges (within ix.fenced ws)) _ t rb λ vc ec rc.
    both (ranges (within ix.marks ws)) _ t rc λ vd ed rd.
    both (ranges (within ix.nsm ws)) _ t rd λ ve ee re.
    both (headed (length (within ix.mapped ws)) most_items (within ix.mapped ws)) _ t re λ vf ef rf.
    both (headed (length (within ix.decompositions ws)) most_parts (within ix.decompositions ws)) _ t rf λ vg eg rg.
    both (sequences (length (within ix.emoji ws)) (within ix.emoji ws)) _ t rg λ vh eh rh.
    both (excluded (within ix.exclusions ws)) _ t rh λ vi ei ri.
    both (class_ranges (within ix.classes ws)) _ t ri λ vj ej rj.
    both (groups (length (within ix.groups ws)) (within ix.groups ws)) _ t rj λ vk ek rk.
    both (wholes (length (within ix.wholes ws)) (within ix.wholes ws)) _ t rk λ vl el rl.
    both (ranges (within ix.escape ws)) _ t rl λ vm em rm.
    both (ranges (within ix.quick ws)) _ t rm λ vn en rn.
    let h = only (leb (length vk) most_groups) (record { valid = va; ignored = vb; fenced = vc; marks = vd; nsm = ve; mapped = vf; decompositions = vg; emoji = vh; exclusions = vi; classes = vj; groups = vk; wholes = vl; escape = vm; quick_check = vn }) t rn in
    let few : length vk ≤ most_groups = leb-true _ _ h.0 in
    rw (← h.1)
    (record { valid = ea; ignored = eb; fenced = ec; marks = ed; nsm = ee; mapped = ef; decompositions = eg; emoji = eh; exclusions = ei; classes = ej; groups = ek; wholes = el; escape = em; quick = en; few = few })

-- a table is what the words of the sections spell, where there are not too many words and the last section ends with them
pub parse_parts : (ws : List ℕ) →
    parse ws ≡ only_if (leb (length ws) most_words) (cond (eqb (last_end (sections_of ws)) (length ws)) (table_of (parts_of ws (sections_of ws))) none)
unfolding parse
parse_parts ws =
    ap (only_if (leb (length ws) most_words))
    (ap (λ (o : Option (List (List ℕ))). and_then o table_of) (sections-found ws) ∙ go (eqb (last_end (sections_of ws)) (length ws)) (parts_of ws (sections_of ws)))
  where
    go : (b : Bool) (ss : List (List ℕ)) → and_then (cond b (some ss) none) table_of ≡ cond b (table_of ss) none
    go true ss = refl
    go false ss = refl

-- What a parsed table says of its words.
pub record Parsed (ws : List ℕ) (t : Table) : Type 0 where
  pub small : length ws ≤ most_words
  pub fit : AllFit ws (sections_of ws)
  pub reads : Reads ws (sections_of ws) t

pub parse_parsed : (ws : List ℕ) (t : Table) → parse ws ≡ some t → Parsed ws t
parse_parsed ws t e = go (leb (length ws) most_words) (eqb (last_end (sections_of ws)) (length ws)) refl refl (sym (parse_parts ws) ∙ e)
  where
    go : (a b : Bool) → leb (length ws) most_words ≡ a → eqb (last_end (sections_of ws)) (length ws) ≡ b →
        only_if a (cond b (table_of (parts_of ws (sections_of ws))) none) ≡ some t → Parsed ws t
    go true true p q h =
        record {
          small = leb-true _ _ p;
          fit = sections_fit ws (eqb-true _ _ q);
          reads = table_reads ws (sections_of ws) t h;
        }
    go true false p q h = let z : ◌≡◌ {A = ℕ} 0 1 = cc in absurd (omega arith)
    go false b p q h = let z : ◌≡◌ {A = ℕ} 0 1 = cc in absurd (omega arith)

pub parse-table : (ws : List ℕ) (t : Table) → parse ws ≡ some t → the_table ws ≡ t
unfolding the_table
parse-table ws t e = rw e

-- What a layout says of its words.
pub laid-parse : (ws : List ℕ) (ix : Sections) → Laid ws ix → parse ws ≡ some (the_table ws)
laid-parse ws ix l = go (parse ws) refl l.parses
  where
    go : (o : Option Table) → parse ws ≡ o → is_some o ≡ true → parse ws ≡ some (the_table ws)
    go none e h = let z : ◌≡◌ {A = ℕ} 0 1 = cc in absurd (omega arith)
    go (some t) e h = rw (parse-table ws t e) e

pub laid_small : (ws : List ℕ) (ix : Sections) → Laid ws ix → length ws ≤ most_words
laid_small ws ix l = (parse_parsed ws (the_table ws) (laid-parse ws ix l)).small

pub laid-fits : (ws : List ℕ) (ix : Sections) → Laid ws ix → AllFit ws ix
unfolding bare
laid-fits ws ix l =
    let f : AllFit ws (bare ix) = rw l.places (parse_parsed ws (the_table ws) (laid-parse ws ix l)).fit in
    record {
      valid = f.valid;
      ignored = f.ignored;
      fenced = f.fenced;
      marks = f.marks;
      nsm = f.nsm;
      mapped = f.mapped;
      decompositions = f.decompositions;
      emoji = f.emoji;
      exclusions = f.exclusions;
      classes = f.classes;
      groups = f.groups;
      wholes = f.wholes;
      escape = f.escape;
      quick = f.quick;
    }

pub laid_reads : (ws : List ℕ) (ix : Sections) → Laid ws ix → Reads ws ix (the_table ws)
unfolding bare
laid_reads ws ix l =
    let r : Reads ws (bare ix) (the_table ws) = rw l.places (parse_parsed ws (the_table ws) (laid-parse ws ix l)).reads in
    record {
      valid = r.valid;
      ignored = r.ignored;
      fenced = r.fenced;
      marks = r.marks;
      nsm = r.nsm;
      mapped = r.mapped;
      decompositions = r.decompositions;
      emoji = r.emoji;
      exclusions = r.exclusions;
      classes = r.classes;
      groups = r.groups;
      wholes = r.wholes;
      escape = r.escape;
      quick = r.quick;
      few = r.few;
    }

-- What the layout pass finds, test by test.
pub parse_long : (ws : List ℕ) → most_words < length ws → parse ws ≡ none
parse_long ws h = rw (lt-leb (length ws) most_words h) at (parse_parts ws)

module _ (ws : List ℕ) (small : length ws ≤ most_words) where
  parse_small : parse ws ≡ cond (eqb (last_end (sections_of ws)) (length ws)) (table_of (parts_of ws (sections_of ws))) none
  parse_small = rw (le-leb (length ws) most_words small) at (parse_parts ws)

  pub parse_open : (last_end (sections_of ws) ≡ length ws → ⊥) → parse ws ≡ none
  parse_open h = rw (ne_eqb (last_end (sections_of ws)) (length ws) h) at parse_small

  pub parse_closed : last_end (sections_of ws) ≡ length ws → parse ws ≡ table_of (parts_of ws (sections_of ws))
  parse_closed h = rw (eq-eqb (last_end (sections_of ws)) (length ws) h) at parse_small
