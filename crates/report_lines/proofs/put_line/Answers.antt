-- `put_line`: the parts of a line, one behind the other.
use Rattle.report_lines.proofs.Putting.{line_put}
use Rattle.report_lines.proofs.put_line.Goals as goal

pub returns : goal.returns
returns c =
    line_put _ _ _ _ _ c.put_kind-kind.ensures c.put_place-from.ensures c.put_place-to.ensures c.put_codepoints-all.ensures
    c.put.ensures
