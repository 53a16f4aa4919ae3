-- The two ends of `finish`.
use Prim.Native.Nat.{ℕ, ◌-◌, ◌<◌, ◌≤◌}
use mathlib.Core.Path.{◌≡◌, sym, ◌∙◌}
use mathlib.Core.Bool.{true, false}
use mathlib.Core.List.{List}
use lib.ListN.{length, take, replicate}
use borrow.Author.Tests.{lt-leb, le-leb}
use borrow.Rule.Slice.PartMut.{mid_of, put_mid}
use Rattle.lists.specs.Filled.{cleared_filled}
use Rattle.buffers.proofs.Parts.{put_filled}
use Rattle.ending.specs.Finish.{Finishes}

module _ (before work work' : List ℕ) (n : ℕ) (cleared : work' ≡ replicate (length work) 0) where
  pub finish_over : (after : List ℕ) → length before < n → after ≡ replicate (length before) 0 → Finishes before after work work' n false
  finish_over after h z = record { fits = sym (lt-leb n (length before) h); answer = z; cleared = cleared }

  pub finish_kept : (tail : List ℕ) → n ≤ length before → tail ≡ replicate (length (mid_of n (length before - n) before)) 0
      → Finishes before (put_mid n (length before - n) before tail) work work' n true
  finish_kept tail h z =
      record {
        fits = sym (le-leb n (length before) h);
        answer = rw (z, put_filled n before 0) (cleared_filled n before h);
        cleared = cleared;
      }
