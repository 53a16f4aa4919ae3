-- `take_line`: each return is one law of a piece.
use mathlib.Core.Path.{sym}
use lib.Seq.{length-take-le}
use Rattle.lines.proofs.Pieces.{piece_inside, line_too_long, piece_room, line_ended, piece_held}
use Rattle.lines.proofs.splitting.take_line.Goals as goal

pub returns-then-k-held : goal.returns-then-k-held
returns-then-k-held c = line_too_long _ c.requires c.find-k.ensures c.if-k-held.true

pub slice_bounds-write_word-end : goal.slice_bounds-write_word-end
slice_bounds-write_word-end c = sym (length-take-le _ _ (piece_inside _ c.requires c.find-k.ensures))

pub write_word-requires : goal.write_word-requires
write_word-requires c = piece_room _ c.requires c.find-k.ensures c.if-k-held.false

pub returns-then-k-piece : goal.returns-then-k-piece
returns-then-k-piece c = line_ended _ c.requires c.find-k.ensures c.if-k-held.false c.write_word.ensures c.if-k-piece.true

pub returns-else-k-piece : goal.returns-else-k-piece
returns-else-k-piece c = piece_held _ c.requires c.find-k.ensures c.if-k-held.false c.write_word.ensures c.if-k-piece.false
