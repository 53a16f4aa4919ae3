-- `put_kind`: one of two words.
use Rattle.report_lines.proofs.Putting.{word-emoji, word-text}
use Rattle.report_lines.proofs.put_kind.Goals as goal

pub returns-then-emoji : goal.returns-then-emoji
returns-then-emoji c = word-emoji _ _ _ _ _ c.if-emoji.true c.put_word.ensures

pub returns : goal.returns
returns c = word-text _ _ _ _ _ c.if-emoji.false c.put_word-2.ensures
