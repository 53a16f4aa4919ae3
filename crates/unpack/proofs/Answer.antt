-- The ends of the unpack call, each from what `inspect` said of the file.
use Prim.Native.Nat.{ℕ, ◌+◌, ◌-◌, ◌*◌, ◌/◌, ◌≤◌, ◌<◌}
use native.Mathlib.Omega.{arith}
use mathlib.Core.Path.{◌≡◌, subst}
use mathlib.Core.List.{List, [], ◌∷◌, ◌++◌, append_assoc}
use lib.ListN.{length, take, drop, replicate, length-append, length-replicate, length-drop, replicate-append-replicate}
use lib.Seq.{take_at}
use borrow.Rule.Slice.PartMut.{mid_of, put_mid}
use Rattle.buffers.proofs.Parts.{mid_tail, put_filled}
use borrow.Author.Tests.{le-leb, lt-leb}
use Rattle.answers.specs.declared.UnpackError.{UnpackError}
use Rattle.answers.specs.declared.UnpackError.TheVariants.{WrongVersion, WrongLength, TooLittleRoom}
use Rattle.std.specs.Prelude.{Result, Ok, Err}
use Rattle.file_words.specs.FileWords.{words_of}
use Rattle.file_words.specs.Promise.{own_words, Holds, Inspected}
use Rattle.file_words.proofs.WordLaws.{length-words}
use Rattle.unpack.specs.Unpack.{unpack_call}
use Rattle.unpack.specs.Promise.{Unpacks}

-- a file has its own words behind its first five bytes
pub holds_rest : (file : List ℕ) (n : ℕ) → Holds file n → length (mid_of 5 (length file - 5) file) ≡ 4 * own_words file
holds_rest file n h = rw (mid_tail 5 file, length-drop) (omega (arith, h.long))

pub holds_own : (file : List ℕ) (n : ℕ) → Holds file n → length (words_of (drop 5 file)) ≡ own_words file
holds_own file n h = length-words (own_words file) (drop 5 file) (rw (mid_tail 5 file) at (holds_rest file n h))

-- and n with those that are added
pub holds_count : (file : List ℕ) (n : ℕ) (h : Holds file n) → length (words_of (drop 5 file) ++ replicate h.lack 0) ≡ n
holds_count file n h = rw (length-append, length-replicate, holds_own file n h, h.sum)

-- `inspect` found n words
pub found-words : (file : List ℕ) (r : Result ℕ UnpackError) (n : ℕ) → r ≡ Ok n → Inspected file r → Holds file n
found-words file r n e h = subst (λ (x : Result ℕ UnpackError). Inspected file x) e h

module _ {file before after : List ℕ} where
  refused_as : (f : UnpackError) → Inspected file (Err f) → after ≡ replicate (length before) 0 → Unpacks file before after (Err f)
  unfolding unpack_call
  refused_as WrongVersion h e = record { values = rw h; answer = rw (h, e) }
  refused_as WrongLength h e = record { values = rw h; answer = rw (h, e) }
  refused_as TooLittleRoom h e = absurd h

  -- the file is refused
  pub file_refused : (r : Result ℕ UnpackError) (f : UnpackError) → r ≡ Err f → Inspected file r → after ≡ replicate (length before) 0 → Unpacks file before after (Err f)
  file_refused r f q h e = refused_as f (subst (λ (x : Result ℕ UnpackError). Inspected file x) q h) e

  -- there is no room for its words
  pub room_refused : (n : ℕ) → Holds file n → length before < n → after ≡ replicate (length before) 0 → Unpacks file before after (Err TooLittleRoom)
  unfolding unpack_call
  room_refused n h l e =
      let small = lt-leb n (length before) l in
      record { values = rw (h.words, holds_count file n h, small); answer = rw (h.words, holds_count file n h, small, e) }

  -- its words, and zeros behind them
  words-given : (n : ℕ) → Holds file n → n ≤ length before → after ≡ words_of (drop 5 file) ++ replicate (length before - own_words file) 0 → Unpacks file before after (Ok n)
  unfolding unpack_call
  words-given n h l e =
      let fits = le-leb n (length before) l in
      let own = words_of (drop 5 file) in
      let room : length before - own_words file ≡ h.lack + (length before - n) = omega (arith, h.sum) in
      let same : after ≡ (own ++ replicate h.lack 0) ++ replicate (length before - n) 0 = rw (append_assoc, replicate-append-replicate, e, room) in
      record { values = rw (h.words, holds_count file n h, fits, holds_count file n h); answer = rw (h.words, holds_count file n h, fits, holds_count file n h, same) }

-- `front` is the buffer once the words of the file are copied, and `tail` what came back of the part behind them
pub words_put : (file before front tail : List ℕ) (n : ℕ) → Holds file n → n ≤ length before
    → front ≡ words_of (mid_of 5 (length file - 5) file) ++ drop (length (mid_of 5 (length file - 5) file) / 4) before
    → tail ≡ replicate (length (mid_of (own_words file) (length front - own_words file) front)) 0
    → Unpacks file before (put_mid (own_words file) (length front - own_words file) front tail) (Ok n)
words_put file before front tail n h l e₀ z =
    let m = own_words file in
    let rest : length (mid_of 5 (length file - 5) file) ≡ 4 * m = holds_rest file n h in
    let words_in_rest : length (mid_of 5 (length file - 5) file) / 4 ≡ m = omega (arith, rest) in
    let e : front ≡ words_of (mid_of 5 (length file - 5) file) ++ drop m before = rw words_in_rest at e₀ in
    let words : front ≡ words_of (drop 5 file) ++ drop (own_words file) before = rw (mid_tail 5 file) at e in
    let own : length (words_of (drop 5 file)) ≡ m = holds_own file n h in
    let same : length front ≡ length before = rw (words, length-append, own, length-drop) (omega (arith, l, h.sum)) in
    let taken : take m front ≡ words_of (drop 5 file) = rw words (take_at (words_of (drop 5 file)) (drop m before) m own) in
    words-given n h l (rw (z, put_filled m front 0, taken, same))
