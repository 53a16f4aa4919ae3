-- `section_places::places` meets its contract. Each section is found behind the one before it.
use Rattle.sections.proofs.SectionLaws.{sections-chain}
use Rattle.section_places.proofs.places.Goals as goal

pub returns : goal.returns
returns c =
    sections-chain _ _ _ _ _ _ _ _ _ _ _ _ _ _ _ c.span_at-valid.ensures c.span_at-ignored.ensures c.span_at-fenced.ensures c.span_at-marks.ensures c.span_at-nsm.ensures c.span_at-mapped.ensures c.span_at-decompositions.ensures c.span_at-emoji.ensures c.span_at-exclusions.ensures c.span_at-classes.ensures c.span_at-groups.ensures c.span_at-wholes.ensures c.span_at-escape.ensures c.span_at-quick.ensures _ _ c.none_sorted-sorted.ensures c.no_starts-starts.ensures
