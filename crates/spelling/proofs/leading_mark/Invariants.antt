-- `spelling::leading_mark` meets its contract: what it asks is asked of the codepoints and tags that are left.
use mathlib.Core.Path.{◌≡◌}
use Rattle.table.specs.Layout.{the_table}
use Rattle.spelling.specs.CellTags.{leading_at, codes_in, tags_in}
use Rattle.spelling.proofs.leading_mark.Given as goal

abbrev pub invariant-loop-c : goal.invariant-loop-c
invariant-loop-c l = record {
  left : leading_at (the_table l.words) (codes_in l.w l.n) (tags_in l.w l.n) ≡ leading_at (the_table l.words) l.c-iterator.a.rest.now l.c-iterator.b.rest.now;
  can : (goal.iterator-loop-c).can_next l.c-iterator;
  ends : (goal.iterator-loop-c).is_finite l.c-iterator;
}
