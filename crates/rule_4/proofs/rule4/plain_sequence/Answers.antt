-- `rule_4::rule4::plain_sequence` meets its contract.
use mathlib.Core.Path.{sym, ◌∙◌, ap}
use mathlib.Core.Bool.{not}
use Rattle.rule_4.proofs.rule4.plain_sequence.Goals as goal

pub returns-then-mem_in : goal.returns-then-mem_in
returns-then-mem_in c = rw (sym c.mem_in.ensures ∙ c.if-mem_in.true)

pub returns-then-starts_with : goal.returns-then-starts_with
returns-then-starts_with c = rw (sym c.mem_in.ensures ∙ c.if-mem_in.false, sym c.starts_with.ensures ∙ c.if-starts_with.true)

pub returns : goal.returns
returns c =
    rw (sym c.mem_in.ensures ∙ c.if-mem_in.false, sym c.starts_with.ensures ∙ c.if-starts_with.false) (ap not c.two_selectors.ensures)
