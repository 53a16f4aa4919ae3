-- `put_place`: a blank, and the digits.
use Rattle.byte_sink.proofs.Adding.{adds_then}
use Rattle.report_lines.proofs.put_place.Goals as goal

pub returns : goal.returns
returns c = adds_then c.put-blank.ensures c.put_numeral.ensures
