-- What is written once the input has ended.
use Prim.Native.Nat.{ℕ, suc, ◌+◌, ◌-◌, ◌≤◌}
use native.Mathlib.Omega.{arith}
use native.Mathlib.Numerals.{add-one}
use mathlib.Core.Path.{◌≡◌, refl, sym, ◌∙◌}
use mathlib.Core.Bool.{true, false, false≢true}
use mathlib.Core.List.{List, [], ◌∷◌, ◌++◌}
use mathlib.Core.Option.{Option, none, some}
use lib.ListN.{length, take, drop}
use lib.Seq.{length-take-le}
use borrow.Rule.Slice.PartMut.{mid_of, put_mid}
use Rattle.lists.specs.Lists.{on_some, is_some}
use Rattle.buffers.specs.Writes.{Writes}
use Rattle.buffers.proofs.Written.{writes_within, writes_part, left_behind, written_same}
use Rattle.line_reading.specs.Reading.{read_line, first_at}
use Rattle.line_writing.specs.Writing.{end_line, bad_line, most_end_line}
use Rattle.lines.specs.Splitting.{lines_of, output}
use Rattle.lines.proofs.Pieces.{lines_none, lines_last}
use Rattle.replying.specs.Lines.{reply_line, line_reply, reply_room}
use Rattle.replying.specs.Promise.{Replies}
use Rattle.serving.specs.Serving.{LastLine}
use Rattle.replying.specs.declared.Reply.{Reply}

module _ (words : List ℕ) (names : ℕ) where
  ending_none : (line : List ℕ) → length line ≡ 0 → output (reply_line words) names (lines_of line) ≡ end_line names
  unfolding output
  ending_none [] h = rw lines_none
  ending_none (b ∷ line) h = absurd (omega arith)

  module _ (line : List ℕ) (unended : first_at 10 line ≡ length line) (one : 1 ≤ length line) where
    last : output (reply_line words) names (lines_of line)
        ≡ on_some (read_line line) (λ name. reply_line words name ++ end_line (suc names)) bad_line
    unfolding output
    last = rw (lines_last line unended one)

    ending_bad : is_some (read_line line) ≡ false → output (reply_line words) names (lines_of line) ≡ line_reply words line
    unfolding line_reply
    ending_bad h = last ∙ go (read_line line) h
      where
        go : (o : Option (List ℕ)) → is_some o ≡ false
            → on_some o (λ name. reply_line words name ++ end_line (suc names)) bad_line ≡ on_some o (λ name. reply_line words name) bad_line
        go none e = refl
        go (some name) e = absurd (false≢true (sym e))

    ending_both : is_some (read_line line) ≡ true
        → output (reply_line words) names (lines_of line) ≡ line_reply words line ++ end_line (names + 1)
    unfolding line_reply
    ending_both h = last ∙ go (read_line line) h
      where
        go : (o : Option (List ℕ)) → is_some o ≡ true → on_some o (λ name. reply_line words name ++ end_line (suc names)) bad_line
            ≡ on_some o (λ name. reply_line words name) bad_line ++ end_line (names + 1)
        go none e = absurd (false≢true e)
        go (some name) e = rw (add-one names)

-- nothing is held
pub wrote_none : (words line : List ℕ) (names : ℕ) {before after : List ℕ} {r : ℕ} → Writes (end_line names) before after r → length line ≡ 0
    → Writes (output (reply_line words) names (lines_of line)) before after r
wrote_none words line names {before} {after} {r} w e = rw (ending_none words names line e) w

-- the bytes that are lent for the line
pub lent_length : {line text : List ℕ} {names : ℕ} → LastLine line text names → reply_room ≡ length (take reply_room text)
lent_length {line} {text} h = sym (length-take-le reply_room text (omega (arith, h.room)))

-- the line that is held, written into the first bytes alone
module _ {words line text part : List ℕ} {names : ℕ} {r : Reply} (h : LastLine line text names) (one : 1 ≤ length line)
    (p : Replies words line (take reply_room text) part r) where
  pub reply_within : Writes (line_reply words line) text (part ++ drop reply_room text) r.length
  reply_within = writes_within reply_room (omega (arith, h.room)) p.text

  pub reply_short : r.length ≤ reply_room
  reply_short = omega (arith, p.text.room, length-take-le reply_room text (omega (arith, h.room)))

  -- .. is the last that is written, where it is unreadable
  pub wrote_bad : r.readable ≡ false
      → Writes (output (reply_line words) names (lines_of line)) text (part ++ drop reply_room text) r.length
  wrote_bad e = rw (ending_bad words names line h.unended one (sym p.readable ∙ e)) reply_within

  -- .. and the count of names stands behind it, where it is readable
  pub wrote_both : r.readable ≡ true → {rest : List ℕ} {k : ℕ}
      → Writes (end_line (names + 1))
      (mid_of r.length (length (part ++ drop reply_room text) - r.length) (part ++ drop reply_room text)) rest k
      → Writes (output (reply_line words) names (lines_of line)) text
      (put_mid r.length (length (part ++ drop reply_room text) - r.length) (part ++ drop reply_room text) rest) (r.length + k)
  wrote_both e {rest} {k} w =
      rw (ending_both words names line h.unended one (sym p.readable ∙ e)) (writes_part (end_line (names + 1)) rest k reply_within w)

  -- there is room for that
  pub room_ending : most_end_line
      ≤ length (mid_of r.length (length (part ++ drop reply_room text) - r.length) (part ++ drop reply_room text))
  room_ending = rw (left_behind reply_within) (omega (arith, h.room, reply_short))

  pub reply_inside : r.length ≤ length (part ++ drop reply_room text)
  reply_inside = omega (arith, written_same reply_within, reply_within.room)
