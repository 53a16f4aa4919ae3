-- What the layout pass hands on of what it sees.
use Rattle.std.specs.Prelude.{Bool, ◌&&◌}
use Rattle.sections.specs.declared.Sections.{Sections}
use Rattle.sections.specs.declared.Sorted.{Sorted}
use Rattle.sections.specs.declared.Starts.{Starts}
use Rattle.seen_sections.specs.declared.Sets.{Sets}
use Rattle.seen_sections.specs.declared.Others.{Others}

-- every section is well formed
abbrev pub all_fit : Sets → Others → Bool
all_fit s o =
    (s.valid.fits && s.ignored.fits && s.fenced.fits && s.marks.fits && s.nsm.fits)
    && (o.mapped.fits && o.decompositions.fits && o.emoji.fits && o.exclusions.fits && o.classes.fits)
    && o.groups.fits
    && o.wholes
    && s.escape.fits
    && s.quick.fits

-- which are sorted
abbrev pub sorted_of : Sets → Others → Sorted
sorted_of s o =
    record {
      valid = s.valid.sorted;
      ignored = s.ignored.sorted;
      fenced = s.fenced.sorted;
      marks = s.marks.sorted;
      nsm = s.nsm.sorted;
      mapped = o.mapped.sorted;
      decompositions = o.decompositions.sorted;
      emoji = o.emoji.sorted;
      exclusions = o.exclusions.sorted;
      classes = o.classes.sorted;
      groups = o.groups.sorted;
      escape = s.escape.sorted;
      quick = s.quick.sorted;
    }

-- where a search may start
abbrev pub starts_of : Others → Starts
starts_of o = record { mapped = o.mapped.marks; decompositions = o.decompositions.marks; emoji = o.emoji.places; numbers = o.emoji.numbers }

-- the places, with what is found
abbrev pub found_of : Sections → Sets → Others → Sections
found_of ix s o =
    record {
      valid = ix.valid;
      ignored = ix.ignored;
      fenced = ix.fenced;
      marks = ix.marks;
      nsm = ix.nsm;
      mapped = ix.mapped;
      decompositions = ix.decompositions;
      emoji = ix.emoji;
      exclusions = ix.exclusions;
      classes = ix.classes;
      groups = ix.groups;
      wholes = ix.wholes;
      escape = ix.escape;
      quick = ix.quick;
      sorted = sorted_of s o;
      starts = starts_of o;
    }
