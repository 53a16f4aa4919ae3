-- A small table that is laid out with every flag up, as the layout pass finds it, and so with every flag down.
use Rattle.std.specs.Prelude.{ℕ, ◌≡◌, refl, true, List, [], ◌∷◌}
use Rattle.std.proofs.Common.{arith}
use Rattle.table.specs.declared.Span.{Span}
use Rattle.table.specs.Layout.{most_items, headed, sequences, groups, parse}
use Rattle.table.specs.Spans.{within}
use Rattle.table.specs.Part.{records_in}
use Rattle.apart.specs.Tested.{all_below, tested_apart}
use Rattle.heads.specs.Heads.{rising}
use Rattle.heads.proofs.MarkLaws.{heads-at, from_start, marks-none}
use Rattle.firsts.specs.Firsts.{steady}
use Rattle.firsts.proofs.Marked.{numbered_none}
use Rattle.firsts.proofs.Marked as marked
use Rattle.sections.specs.declared.Sections.{Sections}
use Rattle.sections.specs.Known.{no_starts, spelled, GroupsApart, Known, AllSeen}
use Rattle.sections.specs.Laid.{span_at, sections_of, bare, Laid}
use Rattle.sections.specs.Flags.{bare-laid}

-- each line a section, led by its count of words
abbrev sample : List ℕ
sample =
    4 ∷ 0x30 ∷ 0x39 ∷ 0x61 ∷ 0x7A
    ∷ 2 ∷ 0xAD ∷ 0xAD
    ∷ 4 ∷ 0x2019 ∷ 0x2019 ∷ 0x2044 ∷ 0x2044
    ∷ 2 ∷ 0x300 ∷ 0x36F
    ∷ 2 ∷ 0x300 ∷ 0x36F
    ∷ 6 ∷ 0x41 ∷ 1 ∷ 0x61 ∷ 0x42 ∷ 1 ∷ 0x62
    ∷ 8 ∷ 0xE0 ∷ 2 ∷ 0x61 ∷ 0x300 ∷ 0xE1 ∷ 2 ∷ 0x61 ∷ 0x301
    ∷ 4 ∷ 1 ∷ 0x231A ∷ 1 ∷ 0x231B
    ∷ 3 ∷ 2 ∷ 0x958 ∷ 0x959
    ∷ 6 ∷ 0x300 ∷ 0x314 ∷ 230 ∷ 0x323 ∷ 0x323 ∷ 220
    ∷ 12 ∷ 0 ∷ 4 ∷ 0x30 ∷ 0x39 ∷ 0x61 ∷ 0x7A ∷ 1 ∷ 4 ∷ 0x3B1 ∷ 0x3B5 ∷ 0x3BF ∷ 0x3BF
    ∷ 4 ∷ 1 ∷ 0x6F ∷ 1 ∷ 0x3BF
    ∷ 2 ∷ 0x20 ∷ 0x20
    ∷ 4 ∷ 0x300 ∷ 0x301 ∷ 0x958 ∷ 0x959
    ∷ []

abbrev span : ℕ → ℕ → Span
span a b = record { from = a; to = b }

-- the places of the sections, every flag up, and no mark set
unfoldable pub found : Sections
found =
    record {
      valid = span 1 5;
      ignored = span 6 8;
      fenced = span 9 13;
      marks = span 14 16;
      nsm = span 17 19;
      mapped = span 20 26;
      decompositions = span 27 35;
      emoji = span 36 40;
      exclusions = span 41 44;
      classes = span 45 51;
      groups = span 52 64;
      wholes = span 65 69;
      escape = span 70 72;
      quick = span 73 77;
      sorted = record { valid = true; ignored = true; fenced = true; marks = true; nsm = true; mapped = true; decompositions = true; emoji = true; exclusions = true; classes = true; groups = true; escape = true; quick = true };
      starts = no_starts;
    }

-- each section is sorted
pub all_up : AllSeen sample found
unfolding found all_below records_in headed rising sequences steady groups spelled GroupsApart
all_up =
    record {
      valid = (λ e. tested_apart 2 1 _ refl, λ a. refl);
      ignored = (λ e. tested_apart 2 1 _ refl, λ a. refl);
      fenced = (λ e. tested_apart 2 1 _ refl, λ a. refl);
      marks = (λ e. tested_apart 2 1 _ refl, λ a. refl);
      nsm = (λ e. tested_apart 2 1 _ refl, λ a. refl);
      mapped = (λ e. refl, λ a. refl);
      decompositions = (λ e. refl, λ a. refl);
      emoji = (λ e. refl, λ a. refl);
      exclusions = (λ e. tested_apart 1 0 _ refl, λ a. refl);
      classes = (λ e. tested_apart 3 1 _ refl, λ a. refl);
      groups = (λ e. (tested_apart 2 1 _ refl, (tested_apart 2 1 _ refl, tt)), λ a. refl);
      escape = (λ e. tested_apart 2 1 _ refl, λ a. refl);
      quick = (λ e. tested_apart 2 1 _ refl, λ a. refl);
    }

abbrev words : Span → List ℕ
words s = within s sample

-- so the table is laid out with every flag up
sample_known : Known sample found
unfolding found headed sequences
sample_known =
    record {
      valid = all_up.valid.0;
      ignored = all_up.ignored.0;
      fenced = all_up.fenced.0;
      marks = all_up.marks.0;
      nsm = all_up.nsm.0;
      mapped = record { parses = refl; marks = marks-none _ (from_start _ (heads-at (words found.mapped) most_items (omega arith) refl)); rise = all_up.mapped.0 };
      decompositions = record { parses = refl; marks = marks-none _ (from_start _ (heads-at (words found.decompositions) most_items (omega arith) refl)); rise = all_up.decompositions.0 };
      emoji = record { parses = refl; marks = numbered_none _ (marked.from_start (words found.emoji) refl); firsts = all_up.emoji.0 };
      exclusions = all_up.exclusions.0;
      classes = all_up.classes.0;
      groups = all_up.groups.0;
      escape = all_up.escape.0;
      quick = all_up.quick.0;
    }

pub sample-laid : Laid sample found
unfolding found parse sections_of span_at bare
sample-laid = record { parses = refl; places = refl; known = sample_known }

-- and with every flag down
pub sample-bare : Laid sample (bare found)
sample-bare = bare-laid sample found sample-laid
