-- `put_codepoint`: a blank, and the digits, between braces or not.
use mathlib.Core.Path.{sym, ◌∙◌}
use Rattle.report_lines.proofs.Putting.{shown-plain, shown_braced}
use Rattle.report_lines.proofs.put_codepoint.Goals as goal

pub returns-then-should_escape : goal.returns-then-should_escape
returns-then-should_escape c =
    let i = c in
    shown_braced _ _ _ c.from.ensures c.put-blank.ensures (sym i.should_escape.ensures ∙ i.if-should_escape.true) c.put-open.ensures
    c.put_numeral-digits.ensures c.put.ensures

pub returns : goal.returns
returns c =
    let i = c in
    shown-plain _ _ _ c.from-2.ensures c.put-blank.ensures (sym i.should_escape.ensures ∙ i.if-should_escape.false) c.put_numeral.ensures
