-- What is seen of each section comes to a table that is laid out, or to a fault.
use Rattle.std.specs.Prelude.{Some, None}
use Prim.Native.Nat.{ℕ, ◌≤◌}
use native.Mathlib.Omega.{arith}
use mathlib.Core.Path.{◌≡◌, refl, sym, subst, ◌∙◌}
use mathlib.Core.Bool.{Bool, true, false, ◌&&◌, and_comm, and_assoc}
use mathlib.Core.Logic.{◌↔◌}
use mathlib.Core.List.{List}
use mathlib.Core.Option.{Option, none, some}
use lib.ListN.{length}
use lib.Dec.{leb}
use Rattle.lists.specs.Lists.{is_some, given, and_then}
use Rattle.table.specs.Layout.{most_items, most_parts, most_groups, most_words, only_if, ranges, class_ranges, headed, sequences, excluded, groups, wholes, table_of, parse}
use Rattle.table.specs.Spans.{within}
use Rattle.sections.specs.declared.Sections.{Sections}
use Rattle.sections.specs.Known.{Known, AllSeen}
use Rattle.sections.specs.Laid.{sections_of, bare, last_end, Laid, LaidOut, parts_of}
use Rattle.sections.proofs.SectionLaws.{parse_closed}
use Rattle.group_sizes.specs.declared.Seen.{Seen}
use Rattle.seen_sections.specs.declared.Sets.{Sets}
use Rattle.seen_sections.specs.declared.Others.{Others}
use Rattle.whole_sizes.specs.Wholes.{wholes_fit}
use Rattle.group_sizes.specs.Walk.{groups_within}
use Rattle.group_sizes.specs.Sees.{Sees}
use Rattle.layout.specs.Seeing.{SetsFound, OthersFound}
use Rattle.seen_sections.specs.Found.{all_fit, found_of}
use Rattle.whole_sizes.proofs.WalkLaws.{first_true, last_true}

-- All sections are well formed.
some_only : {A : Type 0} (b : Bool) (a : A) → is_some (only_if b (some a)) ≡ b
some_only true a = refl
some_only false a = refl

module _ {A B : Type 0} where
  some_then : (o : Option A) (f : A → Option B) (b : Bool) → ((a : A) → is_some (f a) ≡ b) → is_some (and_then o f) ≡ (is_some o && b)
  some_then none f b h = refl
  some_then (some a) f b h = h a

  given_then : (p : A → Bool) (o : Option A) (f : A → Option B) (b : Bool) → ((a : A) → is_some (f a) ≡ (b && p a)) → is_some (and_then o f) ≡ (given p o && b)
  given_then p none f b h = refl
  given_then p (some a) f b h = h a ∙ and_comm b (p a)

  -- a step behind the groups, whose number is asked last
  some_also : (o : Option A) (f : A → Option B) (b c : Bool) → ((a : A) → is_some (f a) ≡ (b && c)) → is_some (and_then o f) ≡ ((is_some o && b) && c)
  some_also none f b c h = refl
  some_also (some a) f b c h = h a

table-some : (ws : List ℕ) (ix : Sections) →
    is_some (table_of (parts_of ws ix))
    ≡ (is_some (ranges (within ix.valid ws))
    && (is_some (ranges (within ix.ignored ws))
    && (is_some (ranges (within ix.fenced ws))
    && (is_some (ranges (within ix.marks ws))
    && (is_some (ranges (within ix.nsm ws))
    && (is_some (headed (length (within ix.mapped ws)) most_items (within ix.mapped ws))
    && (is_some (headed (length (within ix.decompositions ws)) most_parts (within ix.decompositions ws))
    && (is_some (sequences (length (within ix.emoji ws)) (within ix.emoji ws))
    && (is_some (excluded (within ix.exclusions ws))
    && (is_some (class_ranges (within ix.classes ws))
    && (groups_within most_groups (within ix.groups ws)
    && (wholes_fit (within ix.wholes ws)
    && (is_some (ranges (within ix.escape ws))
    && is_some (ranges (within ix.quick ws)))))))))))))))
unfolding table_of parts_of wholes_fit groups_within
table-some ws ix =
    some_then (ranges (within ix.valid ws)) _ _ λ a.
    some_then (ranges (within ix.ignored ws)) _ _ λ b.
    some_then (ranges (within ix.fenced ws)) _ _ λ c.
    some_then (ranges (within ix.marks ws)) _ _ λ d.
    some_then (ranges (within ix.nsm ws)) _ _ λ e.
    some_then (headed (length (within ix.mapped ws)) most_items (within ix.mapped ws)) _ _ λ f.
    some_then (headed (length (within ix.decompositions ws)) most_parts (within ix.decompositions ws)) _ _ λ g.
    some_then (sequences (length (within ix.emoji ws)) (within ix.emoji ws)) _ _ λ h.
    some_then (excluded (within ix.exclusions ws)) _ _ λ i.
    some_then (class_ranges (within ix.classes ws)) _ _ λ j.
    given_then (λ gs. leb (length gs) most_groups) (groups (length (within ix.groups ws)) (within ix.groups ws)) _ _ λ k.
    some_also (wholes (length (within ix.wholes ws)) (within ix.wholes ws)) _ _ _ λ l.
    some_also (ranges (within ix.escape ws)) _ _ _ λ m.
    some_then (ranges (within ix.quick ws)) _ _ λ n.
    some_only (leb (length k) most_groups) _

-- so is each of them
each_five : (a b c d e : Bool) → (a && b && c && d && e) ≡ true → (a ≡ true) × (b ≡ true) × (c ≡ true) × (d ≡ true) × (e ≡ true)
each_five a b c d e h =
    let h₁ = first_true (a && b && c && d) e h in
    let h₂ = first_true (a && b && c) d h₁ in
    let h₃ = first_true (a && b) c h₂ in
    (first_true a b h₃, last_true a b h₃, last_true (a && b) c h₂, last_true (a && b && c) d h₁, last_true (a && b && c && d) e h)

-- the two ends
pub fault_out : (ws : List ℕ) → parse ws ≡ none → LaidOut ws None
fault_out ws e =
    record {
      fault = λ q. e;
      found = λ ix q. let z : ◌≡◌ {A = ℕ} 0 1 = cc in absurd (omega arith);
      seen = λ ix q. let z : ◌≡◌ {A = ℕ} 0 1 = cc in absurd (omega arith);
    }

found_out : (ws : List ℕ) (ix : Sections) → Laid ws ix → AllSeen ws ix → LaidOut ws (Some ix)
found_out ws ix l s =
    record {
      fault = λ q. let z : ◌≡◌ {A = ℕ} 0 1 = cc in absurd (omega arith);
      found = λ jx q. let same : ix ≡ jx = cc in subst (Laid ws) same l;
      seen = λ jx q. let same : ix ≡ jx = cc in subst (AllSeen ws) same s;
    }

-- what is seen of a section that is well formed
exactly : (fits : Bool) (A : Type 0) (r : Seen) → Sees fits A r → r.fits ≡ true → (r.sorted ≡ true) ↔ A
exactly fits A r w e = (w.sorted, w.found (sym w.fits ∙ e))

nothing : {A : Type 0} (o : Option A) → is_some o ≡ false → o ≡ none
nothing none e = refl
nothing (some a) e = let z : ◌≡◌ {A = ℕ} 0 1 = cc in absurd (omega arith)

module _ (ws : List ℕ) (ix : Sections) (s : Sets) (o : Others) (f : SetsFound ws ix s) (g : OthersFound ws ix o) where
  all_fit_lem : all_fit s o ≡ is_some (table_of (parts_of ws ix))
  all_fit_lem =
      rw (
        table-some ws ix,
        f.valid.fits,
        f.ignored.fits,
        f.fenced.fits,
        f.marks.fits,
        f.nsm.fits,
        g.mapped.fits,
        g.decompositions.fits,
        g.emoji.fits,
        g.exclusions.fits,
        g.classes.fits,
        g.groups.fits,
        g.wholes,
        f.escape.fits,
        f.quick.fits,
      )
      (simp and_assoc)

  -- each section is well formed where all are
  marks_fit : Bool
  marks_fit = s.valid.fits && s.ignored.fits && s.fenced.fits && s.marks.fits && s.nsm.fits

  records_fit : Bool
  records_fit = o.mapped.fits && o.decompositions.fits && o.emoji.fits && o.exclusions.fits && o.classes.fits

  module _ (e : all_fit s o ≡ true) where
    -- the marks and the records, the groups, the wholes, and the last two
    parts : ((marks_fit && records_fit) ≡ true) × (o.groups.fits ≡ true) × (o.wholes ≡ true) × (s.escape.fits ≡ true) × (s.quick.fits ≡ true)
    unfolding marks_fit records_fit
    parts = each_five (marks_fit && records_fit) o.groups.fits o.wholes s.escape.fits s.quick.fits e

    sets : (s.valid.fits ≡ true) × (s.ignored.fits ≡ true) × (s.fenced.fits ≡ true) × (s.marks.fits ≡ true) × (s.nsm.fits ≡ true)
    unfolding marks_fit
    sets = each_five s.valid.fits s.ignored.fits s.fenced.fits s.marks.fits s.nsm.fits (first_true marks_fit records_fit parts.0)

    records : (o.mapped.fits ≡ true) × (o.decompositions.fits ≡ true) × (o.emoji.fits ≡ true) × (o.exclusions.fits ≡ true) × (o.classes.fits ≡ true)
    unfolding records_fit
    records = each_five o.mapped.fits o.decompositions.fits o.emoji.fits o.exclusions.fits o.classes.fits (last_true marks_fit records_fit parts.0)

    known : Known ws (found_of ix s o)
    known =
        record {
          valid = f.valid.sorted;
          ignored = f.ignored.sorted;
          fenced = f.fenced.sorted;
          marks = f.marks.sorted;
          nsm = f.nsm.sorted;
          mapped = g.mapped.known records.0;
          decompositions = g.decompositions.known records.1;
          emoji = g.emoji.known records.2;
          exclusions = g.exclusions.sorted;
          classes = g.classes.sorted;
          groups = g.groups.sorted;
          escape = f.escape.sorted;
          quick = f.quick.sorted;
        }

    all_seen : AllSeen ws (found_of ix s o)
    all_seen =
        record {
          valid = exactly _ _ _ f.valid sets.0;
          ignored = exactly _ _ _ f.ignored sets.1;
          fenced = exactly _ _ _ f.fenced sets.2;
          marks = exactly _ _ _ f.marks sets.3;
          nsm = exactly _ _ _ f.nsm sets.4;
          mapped = (known.mapped.rise, g.mapped.found records.0);
          decompositions = (known.decompositions.rise, g.decompositions.found records.1);
          emoji = (known.emoji.firsts, g.emoji.found records.2);
          exclusions = exactly _ _ _ g.exclusions records.3;
          classes = exactly _ _ _ g.classes records.4;
          groups = exactly _ _ _ g.groups parts.1;
          escape = exactly _ _ _ f.escape parts.3;
          quick = exactly _ _ _ f.quick parts.4;
        }

  -- the ends of the pass, where the words are few enough and the last section ends with them
  module _ (same : ix ≡ sections_of ws) (small : length ws ≤ most_words) (end : last_end (sections_of ws) ≡ length ws) where
    told : is_some (parse ws) ≡ all_fit s o
    told = rw (parse_closed ws small end, ← same) (sym all_fit_lem)

    pub all_laid : all_fit s o ≡ true → LaidOut ws (Some (found_of ix s o))
    unfolding sections_of bare
    all_laid e =
        let l : Laid ws (found_of ix s o) = record { parses = told ∙ e; places = rw same; known = known e } in
        found_out ws (found_of ix s o) l (all_seen e)

    pub not_laid : all_fit s o ≡ false → LaidOut ws None
    not_laid e = fault_out ws (nothing (parse ws) (told ∙ e))
