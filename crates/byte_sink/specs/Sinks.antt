-- What was put into a buffer, as far as there is room.
use Rattle.std.specs.Prelude.{ℕ, ◌≤◌, ◌<◌, ◌≡◌, List, ◌++◌, length, take, Option, Some, None}
use Rattle.byte_sink.specs.declared.Sink.{Sink}

-- all that was done stands in front
pub record Fits (done now : List ℕ) (at : ℕ) : Type 0 where
  pub count : at ≡ length done
  pub room : at ≤ length now
  pub front : take at now ≡ done

-- what was done stands in front, or is longer than the buffer
abbrev pub Standing : List ℕ → List ℕ → Option ℕ → Type 0
Standing done now (Some at) = Fits done now at
Standing done now None = length now < length done

pub record Holds (done now : List ℕ) (s : Sink) : Type 0 where
  pub is : Standing done now s.at

-- `text` is put behind what was done
pub record Adds (before after text : List ℕ) (s r : Sink) : Type 0 where
  pub same : length after ≡ length before
  pub holds : (done : List ℕ) → Holds done before s → Holds (done ++ text) after r
