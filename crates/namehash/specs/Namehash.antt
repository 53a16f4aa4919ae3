-- The name hash of EIP-137 as a call. 02, Item 10: "Add the name hash of EIP-137".
use Rattle.std.specs.Prelude.{ℕ, List, replicate}
use Rattle.answers.specs.Verdict.{Verdict, accepted, refused, next}
use Rattle.utf8_scheme.specs.Scheme.{write}
use Rattle.name.specs.Label.{Label}
use Rattle.name.specs.Name.{labels_of, name_answer, NameResult, name_result, name_verdict}
use Rattle.name_node.specs.Node.{node}

-- the verdict of the name call; "where Item 2's writer refuses [its answer], its 4 comes last"
abbrev pub then4 : Verdict (List Label) → Verdict (List Label)
then4 v = next v (λ ls. next (write (name_answer ls)) (λ bytes. accepted ls))

-- "Only the answer of an accepted name, split at 2E, is hashed"; "any refusal comes with 32 zero bytes"
abbrev pub node_of : Verdict (List Label) → List ℕ
node_of (accepted ls) = node (labels_of (name_answer ls))
node_of (refused n p) = replicate 32 0

-- what the call answers: the values and both buffers as the name call has them, "zeros after that 4 too", and the 32 bytes
pub record NamehashResult : Type 0 where
  pub called : NameResult
  pub node : List ℕ

-- the call with a setting, on the words of a table and a name, with an answer buffer of `room` words and a work area of `work` words
unfoldable pub namehash_call : ℕ → List ℕ → List ℕ → ℕ → ℕ → NamehashResult
namehash_call setting words name room work =
    let v = then4 (name_verdict setting words name room work) in
    record { called = name_result name room work v; node = node_of v }
