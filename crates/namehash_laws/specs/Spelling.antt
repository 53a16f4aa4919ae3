-- 02, Item 10: "For a sound table and enough room, a normal form has the hash of the first spelling."
use Rattle.std.specs.Prelude.{ℕ, ◌≡◌, refl, not, List}
use Rattle.std.proofs.Common.{sym, ap, ◌∙◌}
use Rattle.std.proofs.Math.Option.{none}
use Rattle.lists.specs.Lists.{place_with}
use Rattle.answers.specs.Verdict.{Verdict, accepted, next}
use Rattle.scalar.specs.Scalar.{is_scalar}
use Rattle.soundness.specs.Soundness.{soundness_of}
use Rattle.utf8_scheme.specs.Scheme.{write}
use Rattle.name.specs.Label.{Label}
use Rattle.name.specs.Name.{labels_of, name_answer, name_result, name_verdict, name_call, EnoughRoom}
use Rattle.joining.specs.Joining.{name_accepts}
use Rattle.idempotence.specs.Idempotence.{again}
use Rattle.name_node.specs.Node.{octets_of, node}
use Rattle.namehash.specs.Namehash.{NamehashResult, then4, namehash_call}

-- the writer takes a text of scalar values
takes : (s : List ℕ) → place_with (λ c. not (is_scalar c)) 0 s ≡ none → write s ≡ accepted (octets_of s)
unfolding write
takes s e = rw e

-- what the call answers on a name that the name call accepts, and whose answer the writer takes
hashed : (on : ℕ) (words name : List ℕ) (room work : ℕ) (ls : List Label) → name_verdict on words name room work ≡ accepted ls
    → place_with (λ c. not (is_scalar c)) 0 (name_answer ls) ≡ none
    → namehash_call on words name room work ≡ record { called = name_call on words name room work; node = node (labels_of (name_answer ls)) }
unfolding namehash_call name_call
hashed on words name room work ls e f = rw (e, takes (name_answer ls) f)

-- The name and its normal form, each with its own buffers: both calls are those of the name call, and the hash is the same.
pub record SameHash (on : ℕ) (words name : List ℕ) (ls : List Label) (room₁ work₁ room work : ℕ) : Type 0 where
  pub first : namehash_call on words name room₁ work₁ ≡ record { called = name_call on words name room₁ work₁; node = node (labels_of (name_answer ls)) }
  pub second : namehash_call on words (name_answer ls) room work ≡ record { called = name_call on words (name_answer ls) room work; node = node (labels_of (name_answer ls)) }
  pub same : (namehash_call on words (name_answer ls) room work).node ≡ (namehash_call on words name room₁ work₁).node

-- Any table that passes the check, any name accepted with it, and enough room for its normal form.
pub same_hash : (on : ℕ) (words name : List ℕ) (ls : List Label) (room₁ work₁ room work : ℕ) → soundness_of words ≡ none
    → name_verdict on words name room₁ work₁ ≡ accepted ls → EnoughRoom (name_answer ls) room work
    → SameHash on words name ls room₁ work₁ room work
same_hash on words name ls room₁ work₁ room work sound e enough =
    let a = again on words name ls room₁ work₁ room work sound e enough in
    let scalars = (name_accepts on words (name_answer ls) room work ls a.accepts).scalars in
    let one = hashed on words name room₁ work₁ ls e scalars in
    let two = hashed on words (name_answer ls) room work ls a.accepts scalars in
    record {
      first = one;
      second = two;
      same = ap (λ (r : NamehashResult). r.node) two ∙ sym (ap (λ (r : NamehashResult). r.node) one);
    }
