-- What the layout pass sees of each section.
use Rattle.std.specs.Prelude.{ℕ, ◌≡◌, List}
use Rattle.lists.specs.Lists.{is_some}
use Rattle.table.specs.Layout.{most_items, most_parts, most_groups, class_ranges, excluded}
use Rattle.table.specs.Spans.{within}
use Rattle.table.specs.GroupPart.{groups_in}
use Rattle.apart.specs.Apart.{Apart}
use Rattle.sections.specs.declared.Sections.{Sections}
use Rattle.sections.specs.Known.{behind_count, GroupsApart}
use Rattle.seen_sections.specs.declared.Sets.{Sets}
use Rattle.seen_sections.specs.declared.Others.{Others}
use Rattle.whole_sizes.specs.Wholes.{wholes_fit}
use Rattle.group_sizes.specs.Walk.{groups_within}
use Rattle.group_sizes.specs.Sees.{Sees, SeesPairs}
use Rattle.seen_parts.specs.SeesParts.{SeesHeads, SeesFirsts}

pub record SetsFound (ws : List ℕ) (ix : Sections) (s : Sets) : Type 0 where
  pub valid : SeesPairs (within ix.valid ws) s.valid
  pub ignored : SeesPairs (within ix.ignored ws) s.ignored
  pub fenced : SeesPairs (within ix.fenced ws) s.fenced
  pub marks : SeesPairs (within ix.marks ws) s.marks
  pub nsm : SeesPairs (within ix.nsm ws) s.nsm
  pub escape : SeesPairs (within ix.escape ws) s.escape
  pub quick : SeesPairs (within ix.quick ws) s.quick

pub record OthersFound (ws : List ℕ) (ix : Sections) (o : Others) : Type 0 where
  pub mapped : SeesHeads (within ix.mapped ws) most_items o.mapped
  pub decompositions : SeesHeads (within ix.decompositions ws) most_parts o.decompositions
  pub emoji : SeesFirsts (within ix.emoji ws) o.emoji
  pub exclusions : Sees (is_some (excluded (within ix.exclusions ws))) (Apart 1 0 (within (behind_count ix.exclusions) ws)) o.exclusions
  pub classes : Sees (is_some (class_ranges (within ix.classes ws))) (Apart 3 1 (within ix.classes ws)) o.classes
  pub groups : Sees (groups_within most_groups (within ix.groups ws)) (GroupsApart (groups_in (within ix.groups ws))) o.groups
  pub wholes : o.wholes ≡ wholes_fit (within ix.wholes ws)
