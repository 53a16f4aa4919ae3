-- Demand 3, first half: "Take any table that passes the soundness check and any name accepted with it. Its answer, normalised with the same
-- table and enough room, is accepted and is codepoint for codepoint the same. It has as many labels as before, and each keeps its kind,
-- group number and flag included. .. All this holds whatever stood in the buffers before."
use Rattle.std.specs.Prelude.{ℕ, ◌≡◌, List, map, length, replicate}
use Rattle.std.proofs.Common.{arith, sym, ap, ◌∙◌}
use Rattle.std.proofs.Math.Option.{none}
use Rattle.std.proofs.lemmas.List.{length-map}
use Rattle.answers.specs.Verdict.{accepted}
use Rattle.soundness.specs.Soundness.{soundness_of}
use Rattle.lists.specs.Filled.{filled}
use Rattle.name.specs.Label.{Label, answer}
use Rattle.name.specs.Name.{labels_of, name_answer, name_verdict, name_result, name_call, EnoughRoom}
use Rattle.joining.specs.Labels.{labels_count}
use Rattle.joining.specs.Joining.{kind_of, name_accepts, accepts_name}
use Rattle.joining.specs.Alone.{EachAlone, labels_alone}
use Rattle.idempotence.specs.Rules.{sound_table}
use Rattle.idempotence.specs.Lengths.{answer-length}
use Rattle.idempotence.specs.Names.{labels_fine, answers_again, answers_split, answers_scalar}

pub record Again (on : ℕ) (words name : List ℕ) (ls : List Label) (room work : ℕ) : Type 0 where
  -- "Its answer .. is accepted", with the same labels: the same tokens, kinds and worked lengths
  pub accepts : name_verdict on words (name_answer ls) room work ≡ accepted ls
  -- "codepoint for codepoint the same"; "each keeps its kind, group number and flag included"
  pub answers : (zs : List Label) → name_verdict on words (name_answer ls) room work ≡ accepted zs → name_answer zs ≡ name_answer ls
  pub kinds : (zs : List Label) → name_verdict on words (name_answer ls) room work ≡ accepted zs → map kind_of zs ≡ map kind_of ls
  -- "It has as many labels as before": they are the answers of the labels before
  pub as_many : length (labels_of (name_answer ls)) ≡ length (labels_of name)
  pub labels : labels_of (name_answer ls) ≡ map answer ls
  -- the same of the call itself: its values and every word of both buffers
  pub call : name_call on words (name_answer ls) room work ≡ record { values = record { number = 0; place = 0; length = length (name_answer ls); labels = length (labels_of name) }; answer = filled room (name_answer ls); work = replicate work 0 }
  -- the label call, lent a label of the name alone or that label of its answer, answers the same kind
  pub alone_before : (room₂ work₂ : ℕ) → EachAlone on words room₂ work₂ (labels_of name) ls
  pub alone_after : (room₂ work₂ : ℕ) → EachAlone on words room₂ work₂ (labels_of (name_answer ls)) ls

-- 1 to 17 do not apply to the answer
accepted_again : (on : ℕ) (words name : List ℕ) (ls : List Label) (room₁ work₁ room work : ℕ) → soundness_of words ≡ none → name_verdict on words name room₁ work₁ ≡ accepted ls → EnoughRoom (name_answer ls) room work → (name_verdict on words (name_answer ls) room work ≡ accepted ls) × (labels_of (name_answer ls) ≡ map answer ls)
accepted_again on words name ls room₁ work₁ room work sound first enough =
    let a = name_accepts on words name room₁ work₁ ls first in
    let s = sound_table words sound a.table a.laid in
    let fine = labels_fine a.table s on 0 0 0 (labels_of name) ls a.labels in
    let short = answer-length on words name room₁ work₁ ls first in
    let parts : labels_of (name_answer ls) ≡ map answer ls = answers_split a.table s ls fine in
    let second = accepts_name on words (name_answer ls) room work ls
    (record {
      table = a.table;
      laid = a.laid;
      work-fits = enough.for_work;
      input_fits = omega (arith, short.answer-fits, short.worked-fits);
      scalars = answers_scalar a.table s ls fine;
      labels = rw parts (answers_again a.table s on 0 0 0 (labels_of name) ls a.labels);
      room_fits = enough.for_answer;
    }) in
    (second, parts)

-- what the call answers on a name that is accepted
call_of : (on : ℕ) (words name : List ℕ) (room work : ℕ) (ls : List Label) → name_verdict on words name room work ≡ accepted ls → name_call on words name room work ≡ name_result name room work (accepted ls)
unfolding name_call
call_of on words name room work ls e = ap (name_result name room work) e

-- Any table that passes the check, any name accepted with it, and enough room for the answer; the buffers of the two calls may differ.
pub again : (on : ℕ) (words name : List ℕ) (ls : List Label) (room₁ work₁ room work : ℕ)
    → soundness_of words ≡ none
    → name_verdict on words name room₁ work₁ ≡ accepted ls
    → EnoughRoom (name_answer ls) room work
    → Again on words name ls room work
unfolding name_result
again on words name ls room₁ work₁ room work sound first enough =
    let both = accepted_again on words name ls room₁ work₁ room work sound first enough in
    let a = name_accepts on words name room₁ work₁ ls first in
    let same : (zs : List Label) → name_verdict on words (name_answer ls) room work ≡ accepted zs → zs ≡ ls = λ zs e. let z : accepted zs ≡ accepted ls = sym e ∙ both.0 in cc in
    let count : length (labels_of (name_answer ls)) ≡ length (labels_of name) = ap length both.1 ∙ length-map ls answer ∙ labels_count on a.table 0 0 0 (labels_of name) ls a.labels in
    record {
      accepts = both.0;
      answers = λ zs e. ap name_answer (same zs e);
      kinds = λ zs e. ap (map kind_of) (same zs e);
      as_many = count;
      labels = both.1;
      call = rw (← count) (call_of on words (name_answer ls) room work ls both.0);
      alone_before = labels_alone on words name room₁ work₁ ls first;
      alone_after = labels_alone on words (name_answer ls) room work ls both.0;
    }
