-- A loop that writes a list from its front, one store a turn: after i turns it holds the i values done, then what stood there.
use Prim.Native.Nat.{ℕ, ◌+◌, ◌<◌, ◌≤◌}
use native.Mathlib.Numerals.{add-one}
use native.Mathlib.Omega.{arith}
use mathlib.Core.Path.{◌≡◌, refl}
use mathlib.Core.List.{List, [], ◌∷◌, ◌++◌}
use lib.ListN.{length, set, get_or, drop, length-append, length-set}
use lib.Seq.{drop-cons, set_at, append_snoc}

-- `now` is `done`, which has i elements, and then what `old` has from i on
pub record Front {A : Type 0} (done old now : List A) (i : ℕ) : Type 0 where
  pub holds : now ≡ done ++ drop i old
  pub long : length done ≡ i
  pub room : i ≤ length old
  pub same : length now ≡ length old

module _ {A : Type 0} where
  pub front_start : (old : List A) → Front [] old old 0
  front_start old = record { holds = refl; long = refl; room = omega arith; same = refl }

  -- a store at i
  pub front_more : {done old now : List A} {i : ℕ} (v : A) → Front done old now i → i < length old → Front (done ++ (v ∷ [])) old (set now i v) (i + 1)
  front_more {done} {old} {now} {i} v f h =
      record {
        holds = rw (f.holds, drop-cons old i v h, set_at done (get_or old i v) _ v i f.long, add-one i, append_snoc done v);
        long = rw (length-append, f.long);
        room = omega arith;
        same = rw (length-set, f.same);
      }
