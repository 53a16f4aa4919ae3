-- The ways on from what the name call answers.
use Rattle.std.specs.Prelude.{Result, Ok, Err}
use Rattle.answers.specs.declared.AcceptedName.{AcceptedName}
use Prim.Native.Nat.{ℕ, ◌≤◌}
use native.Mathlib.Omega.{arith}
use mathlib.Core.Path.{◌≡◌, refl, sym, ap, ◌∙◌, subst, subst⁻¹}
use mathlib.Core.Bool.{not}
use mathlib.Core.List.{List, [], ◌∷◌}
use mathlib.Core.Option.{none, some}
use lib.ListN.{length, take, replicate}
use Rattle.lists.specs.Lists.{joined_map, place_with}
use Rattle.lists.specs.Filled.{take-filled}
use Rattle.answers.specs.Verdict.{Verdict, accepted, refused, next}
use Rattle.answers.specs.Values.{NameValues, name_values}
use Rattle.answers.specs.declared.Refusal.{Refusal}
use Rattle.answers.specs.declared.Refusal.TheVariants.{NotScalar}
use Rattle.answers.proofs.Numbers.{some_number}
use Rattle.ending.specs.Ends.{Ends, result_fits}
use Rattle.scalar.specs.Scalar.{is_scalar}
use Rattle.utf8_scheme.specs.Scheme.{octets, write}
use Rattle.keccak_bytes.specs.declared.Digest.{Digest}
use Rattle.name.specs.Label.{Label}
use Rattle.name.specs.Name.{labels_of, name_answer, name_answering, name_result, name_before15, name_verdict, name_call}
use Rattle.name.specs.Calls.{NameCalls}
use Rattle.name_node.specs.Node.{node}
use Rattle.namehash.specs.Namehash.{then4, node_of, namehash_call}
use Rattle.namehash.specs.Promise.{NamehashCalls}

-- what the call has answered where the name call's verdict is v
record Hashes (v : Verdict (List Label)) (name : List ℕ) (room work : ℕ) (told : NameValues) (after after-work hash : List ℕ) : Type 0 where
  ends : Ends (name_result name room work (then4 v)) told after after-work
  is : hash ≡ node_of (then4 v)

module _ (name : List ℕ) (room work : ℕ) (mid mid-work : List ℕ) where
  -- the name call refused
  refused_hash : (v : Verdict (List Label)) (f : Refusal) (hash : List ℕ) → Ends (name_result name room work v) (name_values (Err f)) mid mid-work
      → hash ≡ replicate 32 0 → Hashes v name room work (name_values (Err f)) mid mid-work hash
  unfolding name_result
  refused_hash (accepted ls) f hash h e = absurd (omega (arith, some_number f, ap (λ (x : NameValues). x.number) h.values))
  refused_hash (refused n p) f hash h e = record { ends = h; is = e }

  module _ (len n : ℕ) where
    -- it accepted: the answer stands in front
    front : (ls : List Label) → Ends (name_result name room work (accepted ls)) (name_values (Ok (record { length = len; labels = n }))) mid mid-work
        → take len mid ≡ name_answer ls
    unfolding name_result
    front ls h =
        let long : len ≡ length (name_answer ls) = ap (λ (x : NameValues). x.length) h.values in
        rw (long, h.answer) (take-filled room (name_answer ls))

    refused_front : (m p : ℕ) → Ends (name_result name room work (refused m p)) (name_values (Ok (record { length = len; labels = n }))) mid mid-work → take len mid ≡ []
    unfolding name_result
    refused_front m p h = ap (λ (k : ℕ). take k mid) (ap (λ (x : NameValues). x.length) h.values)

    -- the answer has octets
    written_hash : (v : Verdict (List Label)) (b hash : List ℕ)
        → Ends (name_result name room work v) (name_values (Ok (record { length = len; labels = n }))) mid mid-work
        → write (take len mid) ≡ accepted b → hash ≡ node (labels_of (take len mid))
        → Hashes v name room work (name_values (Ok (record { length = len; labels = n }))) mid mid-work hash
    unfolding labels_of node
    written_hash (accepted ls) b hash h e f =
        let t : then4 (accepted ls) ≡ accepted ls = ap (λ (x : Verdict (List ℕ)). next x (λ bytes. accepted ls)) (sym (ap write (front ls h)) ∙ e) in
        record {
          ends = subst⁻¹ (λ (x : Verdict (List Label)). Ends (name_result name room work x) (name_values (Ok (record { length = len; labels = n }))) mid mid-work) t h;
          is = f ∙ ap (λ (s : List ℕ). node (labels_of s)) (front ls h) ∙ sym (ap node_of t);
        }
    written_hash (refused m p) b hash h e f = record { ends = h; is = f ∙ ap (λ (s : List ℕ). node (labels_of s)) (refused_front m p h) }

    -- it has none: both buffers are zeros
    unwritten_hash : (v : Verdict (List Label)) (at : ℕ) (after hash : List ℕ) → length mid ≡ room
        → Ends (name_result name room work v) (name_values (Ok (record { length = len; labels = n }))) mid mid-work
        → write (take len mid) ≡ refused 4 at → after ≡ replicate (length mid) 0 → hash ≡ replicate 32 0
        → Hashes v name room work (name_values (Err (NotScalar at))) after mid-work hash
    unfolding name_result write
    unwritten_hash (accepted ls) at after hash same h e z f =
        let t : then4 (accepted ls) ≡ refused 4 at = ap (λ (x : Verdict (List ℕ)). next x (λ bytes. accepted ls)) (sym (ap write (front ls h)) ∙ e) in
        record {
          ends =
              subst⁻¹ (λ (x : Verdict (List Label)). Ends (name_result name room work x) (name_values (Err (NotScalar at))) after mid-work) t
              (record { values = refl; answer = z ∙ ap (λ (k : ℕ). replicate k 0) same; cleared = h.cleared });
          is = f ∙ sym (ap node_of t);
        }
    unwritten_hash (refused m p) at after hash same h e z f =
        let x : accepted [] ≡ refused 4 at = sym (ap write (refused_front m p h)) ∙ e in
        absurd (let y : ◌≡◌ {A = ℕ} 0 1 = cc in omega arith)

-- the same of the call
module _ (setting : ℕ) (words input before mid work mid-work : List ℕ) (found : Result AcceptedName Refusal)
    (answered : NameCalls setting words input before mid work mid-work found) where
  v : Verdict (List Label)
  v = name_verdict setting words input (length before) (length work)

  told_as : (r : Result AcceptedName Refusal) → found ≡ r → Ends (name_result input (length before) (length work) v) (name_values r) mid mid-work
  unfolding name_call v
  told_as r e = subst (λ (x : Result AcceptedName Refusal). NameCalls setting words input before mid work mid-work x) e answered

  -- there is room for as much as is accepted
  pub name_room : (len n : ℕ) → found ≡ Ok (record { length = len; labels = n }) → length mid ≡ length before → len ≤ length mid
  unfolding name_verdict name_result v
  name_room len n e same =
      let fits = result_fits (name_answering input) (length before) (length work) (name_before15 setting words input (length work)) in
      omega (arith, fits, ap (λ (x : NameValues). x.length) (told_as (Ok (record { length = len; labels = n })) e).values)

  -- the name call refused
  pub name_refused : (g : Digest) (f : Refusal) → found ≡ Err f → g.bytes ≡ replicate 32 0
      → NamehashCalls setting words input before mid work mid-work (record { answer = found; node = g })
  unfolding namehash_call v
  name_refused g f e z =
      let h = refused_hash input (length before) (length work) mid mid-work v f g.bytes (told_as (Err f) e) z in
      record { ends = rw e h.ends; node = h.is }

  module _ (len n : ℕ) (e : found ≡ Ok (record { length = len; labels = n })) where
    -- it accepted, and the answer has octets
    pub name_written : (g : Digest) (b : List ℕ) → write (take len mid) ≡ accepted b → g.bytes ≡ node (labels_of (take len mid))
        → NamehashCalls setting words input before mid work mid-work (record { answer = Ok (record { length = len; labels = n }); node = g })
    unfolding namehash_call v
    name_written g b q z =
        let h = written_hash input (length before) (length work) mid mid-work len n v b g.bytes (told_as (Ok (record { length = len; labels = n })) e) q z in
        record { ends = h.ends; node = h.is }

    -- it accepted, and the answer has none
    pub name_unwritten : (g : Digest) (at : ℕ) (after : List ℕ) → length mid ≡ length before → write (take len mid) ≡ refused 4 at
        → after ≡ replicate (length mid) 0 → g.bytes ≡ replicate 32 0
        → NamehashCalls setting words input before after work mid-work (record { answer = Err (NotScalar at); node = g })
    unfolding namehash_call v
    name_unwritten g at after same q y z =
        let h = unwritten_hash input (length before) (length work) mid mid-work len n v at after g.bytes same (told_as (Ok (record { length = len; labels = n })) e) q y z in
        record { ends = h.ends; node = h.is }

-- A text with a number that is no scalar value has no octets: 4; any other has.
module _ (text : List ℕ) where
  pub no_octets : (at : ℕ) → some at ≡ place_with (λ c. not (is_scalar c)) 0 text → write text ≡ refused 4 at
  unfolding write
  no_octets at e = rw (← e)

  pub has_octets : none ≡ place_with (λ c. not (is_scalar c)) 0 text → write text ≡ accepted (joined_map octets text)
  unfolding write
  has_octets e = rw (← e)
