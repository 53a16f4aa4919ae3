-- The words of the table, from what unpacking its file promises.
use Prim.Native.Nat.{ℕ, suc, ◌+◌, ◌*◌, ◌≤◌, ◌<◌}
use native.Mathlib.Omega.{arith}
use mathlib.Core.Path.{◌≡◌, refl, ap}
use mathlib.Core.Bool.{Bool, true, false}
use mathlib.Core.List.{List}
use mathlib.Core.Option.{none}
use lib.ListN.{length, take, drop, replicate, length-take}
use lib.Seq.{take_all}
use lib.Dec.{leb}
use borrow.Author.Tests.{le-leb, lt-leb, leb-true, leb-false}
use Rattle.lists.specs.Filled.{filled, take-filled, drop-filled}
use Rattle.answers.specs.Verdict.{accepted, refused}
use Rattle.answers.specs.Values.{UnpackValues, unpack_values}
use Rattle.answers.specs.declared.UnpackError.{UnpackError}
use Rattle.answers.specs.declared.UnpackError.TheVariants.{WrongVersion, WrongLength, TooLittleRoom}
use Rattle.std.specs.Prelude.{Result, Ok, Err}
use Rattle.file_words.specs.FileWords.{file_words}
use Rattle.file_words.proofs.File.{Said, holding, refusing, file_said}
use Rattle.unpack.specs.Unpack.{unpack_call}
use Rattle.unpack.specs.Promise.{Unpacks}
use Rattle.table_file.specs.File.{most_file, most_table, table_words}
use Rattle.table_file.specs.Promise.{TableRead, NoTable, TableIs, ReadsTable}

too_long : (file : List ℕ) → most_file < length file → table_words file ≡ none
unfolding table_words
too_long file h = rw (lt-leb (length file) most_file h)

module _ (file before after : List ℕ) where
  pub table_too_long : most_file < length file → after ≡ replicate (length before) 0 → ReadsTable file before after (Err WrongLength)
  table_too_long h z = record { is = record { words = too_long file h; zeros = z } }

  module _ (short : length file ≤ most_file) (room : most_table ≤ length before) where
    -- the file holds words, and there is room for them
    module _ (ws : List ℕ) (e : file_words file ≡ accepted ws) (long : 4 * length ws ≤ length file + 3) where
      table_held : (r : Result ℕ UnpackError) → unpack_values r ≡ record { number = 0; count = length ws } → after ≡ filled (length before) ws
          → TableIs file before after r
      unfolding table_words
      table_held (Ok n) v a =
          let count : n ≡ length ws = ap (λ (x : UnpackValues). x.count) v in
          record {
            words = rw (le-leb (length file) most_file short, e, count, a, take-filled (length before) ws);
            room = omega (arith, count);
            zeros = rw (count, a) (drop-filled (length before) ws);
          }
      table_held (Err WrongVersion) v a = absurd (let z : ◌≡◌ {A = ℕ} 20 0 = ap (λ (x : UnpackValues). x.number) v in omega arith)
      table_held (Err WrongLength) v a = absurd (let z : ◌≡◌ {A = ℕ} 21 0 = ap (λ (x : UnpackValues). x.number) v in omega arith)
      table_held (Err TooLittleRoom) v a = absurd (let z : ◌≡◌ {A = ℕ} 22 0 = ap (λ (x : UnpackValues). x.number) v in omega arith)

    -- the file is refused
    module _ (k p : ℕ) (e : file_words file ≡ refused (suc k) p) where
      none_held : after ≡ replicate (length before) 0 → NoTable file before after
      unfolding table_words
      none_held a = record { words = rw (le-leb (length file) most_file short, e); zeros = a }

      table_refused : (r : Result ℕ UnpackError) → unpack_values r ≡ record { number = suc k; count = 0 } → after ≡ replicate (length before) 0
          → TableIs file before after r
      table_refused (Ok n) v a = absurd (let z : 0 ≡ suc k = ap (λ (x : UnpackValues). x.number) v in omega arith)
      table_refused (Err f) v a = none_held a

    pub table-read : (r : Result ℕ UnpackError) → Unpacks file before after r → ReadsTable file before after r
    unfolding unpack_call
    table-read r u = go (file_said file)
      where
        go : Said file → ReadsTable file before after r
        go (holding ws e long) =
            let fits : leb (length ws) (length before) ≡ true = le-leb (length ws) (length before) (omega (arith, long)) in
            record { is = table_held ws e long r (rw (e, fits) at u.values) (rw (e, fits) at u.answer) }
        go (refusing k p e) = record { is = table_refused k p e r (rw e at u.values) (rw e at u.answer) }

-- one byte more than a file may have is enough to tell
pub enough_read : (file : List ℕ) → table_words (take (most_file + 1) file) ≡ table_words file
enough_read file = go (leb (length file) most_file) refl
  where
    go : (b : Bool) → leb (length file) most_file ≡ b → table_words (take (most_file + 1) file) ≡ table_words file
    go true e = rw (take_all (most_file + 1) file (omega (arith, leb-true (length file) most_file e)))
    go false e =
        let over : most_file < length file = leb-false (length file) most_file e in
        let cut : length (take (most_file + 1) file) ≡ most_file + 1 = rw length-take (omega arith) in
        rw (too_long file over, too_long (take (most_file + 1) file) (omega (arith, cut)))
