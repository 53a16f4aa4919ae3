-- `utf8_decode::three` meets its contract: each return is a law of the mark 1110.
use mathlib.Core.Path.{sym, ◌∙◌}
use Rattle.utf8_decode.proofs.Sequences.{spelled_3, three_cut, three_cut_2, three_overlong, three_surrogate, three_is}
use Rattle.utf8_decode.proofs.three.Goals as goal

pub returns-in_err-a : goal.returns-in_err-a
returns-in_err-a c = rw c.from_residual.ensures (three_cut _ _ c.requires.0 c.requires.1 c.in_err-a.ensures)

pub returns-in_err-b : goal.returns-in_err-b
returns-in_err-b c = rw c.from_residual-in_err-b.ensures (three_cut_2 _ _ c.requires.0 c.requires.1 c.in_err-b.ensures)

pub returns-then-c-lt2048 : goal.returns-then-c-lt2048
returns-then-c-lt2048 c =
    three_overlong _ _ c.requires.0 c.requires.1 _ _ _ c.in_ok-a.ensures c.in_ok-b.ensures (spelled_3 _ _ _ c.with_bits.ensures c.with_bits-c.ensures)
    c.if-c-lt2048.true

pub returns-then-not-is_scalar : goal.returns-then-not-is_scalar
returns-then-not-is_scalar c =
    three_surrogate _ _ c.requires.0 c.requires.1 _ _ _ c.in_ok-a.ensures c.in_ok-b.ensures (spelled_3 _ _ _ c.with_bits.ensures c.with_bits-c.ensures)
    (sym c.is_scalar.ensures ∙ c.if-not-is_scalar.true)

pub returns : goal.returns
returns c =
    three_is _ _ c.requires.0 c.requires.1 _ _ _ c.in_ok-a.ensures c.in_ok-b.ensures (spelled_3 _ _ _ c.with_bits.ensures c.with_bits-c.ensures)
    c.if-c-lt2048.false (sym c.is_scalar.ensures ∙ c.if-not-is_scalar.false)
