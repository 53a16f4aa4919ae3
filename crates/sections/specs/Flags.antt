-- The answers do not hang on what was found. 02, Item 11: "each lookup equals the definition's first match whatever the flags".
-- Every lookup asks that the words are laid out by `ix` and promises the answer of a definition in which `ix` does not stand, over the table of
-- the words alone:
--   valid, ignored, fenced, marks, nsm: `in_ranges` (is_valid, is_ignored, is_fenced, is_mark, is_nsm);
--   mapped, decompositions: `items_of`, the first record with the head (mapped_items, decomposition_items);
--   emoji: `find`, the longest match, of equal ones the first (finder, find);
--   exclusions: `mem` (is_excluded);
--   classes: `table_class`, the first entry (class_entry);
--   groups: `holds` of each group in turn (groups, group_of; group_flags, flag_holders and keep_outside);
--   wholes: `whole_of`, the first whole (whole_of);
--   escape, quick check: `should_escape`, `in_quick_check` (should_escape, in_quick_check).
-- So it is left to show that the flags are free: what is laid out with some of them up is laid out with all of them down and no mark set, and
-- the same answers are due.
use Rattle.std.specs.Prelude.{ℕ, Bool, false, List}
use Rattle.std.proofs.Common.{arith, subst}
use Rattle.table.specs.Layout.{most_items}
use Rattle.table.proofs.Lookups.{false_true}
use Rattle.place_marks.specs.declared.Marks.{Marks}
use Rattle.place_marks.specs.Places.{no_marks}
use Rattle.heads.specs.Heads.{HeadsKnown}
use Rattle.heads.proofs.MarkLaws.{heads-at, from_start, marks-none}
use Rattle.firsts.specs.Firsts.{FirstsKnown}
use Rattle.firsts.proofs.Marked.{numbered_none}
use Rattle.firsts.proofs.Marked as marked
use Rattle.sections.specs.declared.Sections.{Sections}
use Rattle.sections.specs.Known.{Known}
use Rattle.sections.specs.Laid.{sections_of, bare, Laid}

heads-bare : (part : List ℕ) (sorted : Bool) (m : Marks) → HeadsKnown part sorted m → HeadsKnown part false no_marks
heads-bare part sorted m k =
    record {
      parses = k.parses;
      marks = marks-none part (from_start part (heads-at part most_items (omega arith) k.parses));
      rise = λ e. absurd (false_true e);
    }

firsts_bare : (part : List ℕ) (sorted : Bool) (f g : Marks) → FirstsKnown part sorted f g → FirstsKnown part false no_marks no_marks
firsts_bare part sorted f g k =
    record {
      parses = k.parses;
      marks = numbered_none part (marked.from_start part k.parses);
      firsts = λ e. absurd (false_true e);
    }

module _ (ws : List ℕ) (ix : Sections) (l : Laid ws ix) where
  known_bare : Known ws (bare ix)
  unfolding bare
  known_bare =
      record {
        valid = λ e. absurd (false_true e);
        ignored = λ e. absurd (false_true e);
        fenced = λ e. absurd (false_true e);
        marks = λ e. absurd (false_true e);
        nsm = λ e. absurd (false_true e);
        mapped = heads-bare _ ix.sorted.mapped ix.starts.mapped l.known.mapped;
        decompositions = heads-bare _ ix.sorted.decompositions ix.starts.decompositions l.known.decompositions;
        emoji = firsts_bare _ ix.sorted.emoji ix.starts.emoji ix.starts.numbers l.known.emoji;
        exclusions = λ e. absurd (false_true e);
        classes = λ e. absurd (false_true e);
        groups = λ e. absurd (false_true e);
        escape = λ e. absurd (false_true e);
        quick = λ e. absurd (false_true e);
      }

  -- every flag down and no mark
  pub bare-laid : Laid ws (bare ix)
  unfolding bare
  bare-laid = record { parses = l.parses; places = l.places; known = known_bare }

  -- and so the places alone, as the definition gives them
  pub places_laid : Laid ws (sections_of ws)
  places_laid = subst (Laid ws) l.places bare-laid
