-- `may_keep` meets its contract: each test is passed.
use mathlib.Core.Path.{sym, ◌∙◌}
use mathlib.Core.Bool.{false≢true}
use borrow.Author.Tests.{not-true, not-false}
use Rattle.kept_scan.proofs.may_keep.Goals as goal

pub returns-then-held-ge-MOST_WORKED : goal.returns-then-held-ge-MOST_WORKED
returns-then-held-ge-MOST_WORKED c = λ e. absurd (false≢true e)

pub returns-then-held-gt-MOST_WORKED : goal.returns-then-held-gt-MOST_WORKED
returns-then-held-gt-MOST_WORKED c = λ e. absurd (false≢true e)

pub returns-then-not-stands_behind : goal.returns-then-not-stands_behind
returns-then-not-stands_behind c = λ e. absurd (false≢true e)

pub returns : goal.returns
returns c =
    λ e.
    record {
      room = c.if-held-ge-MOST_WORKED.false;
      worked = c.if-held-gt-MOST_WORKED.false;
      order = sym c.stands_behind.ensures ∙ not-false _ c.if-not-stands_behind.false-raw;
      outside = sym c.in_quick_check.ensures ∙ not-true _ e;
    }
