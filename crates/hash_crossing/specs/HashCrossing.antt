-- What the name hash promises with its answer as plain numbers: the definition of the call.
use Rattle.std.specs.Prelude.{ℕ, ◌≡◌, List, length}
use Rattle.namehash.specs.Namehash.{namehash_call}
use Rattle.fields.specs.Fields.{name_fields}
use Rattle.hash_crossing.specs.declared.WanlophengNamehash.{WanlophengNamehash}

-- The name hash with a setting: every field of the name call's answer, every word of both buffers, and the 32 bytes.
pub record NamehashCrosses (setting : ℕ) (words input before after work work' : List ℕ) (r : WanlophengNamehash) : Type 0 where
  pub values : name_fields r.name ≡ (namehash_call setting words input (length before) (length work)).called.values
  pub answer : after ≡ (namehash_call setting words input (length before) (length work)).called.answer
  pub cleared : work' ≡ (namehash_call setting words input (length before) (length work)).called.work
  pub node : r.node.bytes ≡ (namehash_call setting words input (length before) (length work)).node
