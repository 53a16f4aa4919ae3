-- What the call promises.
use Rattle.std.specs.Prelude.{ℕ, ◌≡◌, List, length}
use Rattle.answers.specs.Values.{name_values}
use Rattle.ending.specs.Ends.{Ends}
use Rattle.namehash.specs.declared.HashedName.{HashedName}
use Rattle.namehash.specs.Namehash.{namehash_call}

-- The call with a setting: its values and every word of both buffers, before and after it, and the 32 bytes.
pub record NamehashCalls (setting : ℕ) (words input before after work work' : List ℕ) (r : HashedName) : Type 0 where
  pub ends : Ends (namehash_call setting words input (length before) (length work)).called (name_values r.answer) after work'
  pub node : r.node.bytes ≡ (namehash_call setting words input (length before) (length work)).node
