-- The answer is no longer than the worked length, on every table.
use Rattle.std.specs.Prelude.{ℕ, suc, ◌+◌, ◌≤◌, ◌≡◌, List, [], ◌∷◌, length}
use Rattle.std.proofs.Common.{arith, ap, length-append}
use Rattle.lists.specs.Lists.{join_with}
use Rattle.lists.specs.Laws.{Every}
use Rattle.answers.specs.Verdict.{accepted}
use Rattle.table.specs.Table.{Table}
use Rattle.tokens.specs.Scan.{steps}
use Rattle.tokens.specs.Tokens.{Token, emoji, text, tokens_of, worked_token, worked, normal_token, normal, joined_tokens}
use Rattle.limits.specs.Limits.{most_worked}
use Rattle.name.specs.Label.{Label, answer, label_verdict}
use Rattle.name.specs.Name.{labels_of, labels_verdict, worked_length, name_answer, name_verdict}
use Rattle.joining.specs.Places.{label_accepts, label-fits}
use Rattle.joining.specs.Labels.{cons_accepts}
use Rattle.joining.specs.Joining.{name_accepts}
use Rattle.text_laws.specs.Laws.{nfc-length}

-- what holds of each label that is accepted holds of all of them
pub every_label : (on : ℕ) (t : Table) (P : Label → Type 0) → ((s d p : ℕ) (l : List ℕ) (x : Label) → label_verdict t s d p l ≡ accepted x → P x) → (s d p : ℕ) (ls : List (List ℕ)) (xs : List Label) → labels_verdict on t s d p ls ≡ accepted xs → Every P xs
unfolding labels_verdict
every_label on t P f s d p [] xs e = let none : xs ≡ [] = cc in rw none tt
every_label on t P f s d p (l ∷ ls) xs e =
    let c = cons_accepts on t s d p l ls xs e in
    rw c.both
    (f s d p l c.first c.first_accepted, every_label on t P f (s + length l + 1) (d + c.first.worked + 1) (suc p) ls c.rest c.rest_accepted)

-- the tokens put together are no longer than their worked length
pub joined_tokens-length : (t : Table) (ts : List Token) → length (joined_tokens (normal t ts)) ≤ worked t ts
unfolding joined_tokens normal normal_token worked worked_token
joined_tokens-length t [] = omega arith
joined_tokens-length t (emoji e ∷ ts) = simp length-append (omega (arith, joined_tokens-length t ts))
joined_tokens-length t (text s ∷ ts) = simp length-append (omega (arith, nfc-length t s, joined_tokens-length t ts))

-- what an accepted label is: the normalised tokens of the label and their worked length
pub accepted_tokens : (t : Table) (s d p : ℕ) (l : List ℕ) (x : Label) → label_verdict t s d p l ≡ accepted x → x.tokens ≡ normal t (tokens_of (steps t l))
accepted_tokens t s d p l x e = ap (λ (y : Label). y.tokens) (label_accepts t s d p l x e).accepts.label

pub accepted_worked : (t : Table) (s d p : ℕ) (l : List ℕ) (x : Label) → label_verdict t s d p l ≡ accepted x → x.worked ≡ worked t (tokens_of (steps t l))
accepted_worked t s d p l x e = ap (λ (y : Label). y.worked) (label_accepts t s d p l x e).accepts.label

-- the answer of an accepted label is no longer than its worked length
pub label-answer-length : (t : Table) (s d p : ℕ) (l : List ℕ) (x : Label) → label_verdict t s d p l ≡ accepted x → length (answer x) ≤ x.worked
label-answer-length t s d p l x e =
    rw (accepted_tokens t s d p l x e, accepted_worked t s d p l x e) (joined_tokens-length t (tokens_of (steps t l)))

joined_length : (xs : List Label) → Every (λ x. length (answer x) ≤ x.worked) xs → length (name_answer xs) ≤ worked_length xs
unfolding name_answer worked_length join_with
joined_length [] h = omega arith
joined_length (x ∷ []) h = h.0
joined_length (x ∷ y ∷ ys) h = simp length-append (omega (arith, h.0, joined_length (y ∷ ys) h.1))

-- the worked length of accepted labels is within the limit
pub labels_worked : (on : ℕ) (t : Table) (s d p : ℕ) (l : List ℕ) (ls : List (List ℕ)) (xs : List Label) → labels_verdict on t s d p (l ∷ ls) ≡ accepted xs → d + worked_length xs ≤ most_worked
unfolding labels_verdict worked_length
labels_worked on t s d p l [] xs e =
    let c = cons_accepts on t s d p l [] xs e in
    let last : c.rest ≡ [] = let r = c.rest_accepted in cc in
    rw (c.both, last) (label-fits t s d p l c.first c.first_accepted)
labels_worked on t s d p l (m ∷ ms) xs e =
    let c = cons_accepts on t s d p l (m ∷ ms) xs e in
    let c' = cons_accepts on t (s + length l + 1) (d + c.first.worked + 1) (suc p) m ms c.rest c.rest_accepted in
    let later : d + c.first.worked + 1 + worked_length (c'.first ∷ c'.rest) ≤ most_worked = rw (← c'.both) (labels_worked on t (s + length l + 1) (d + c.first.worked + 1) (suc p) m ms c.rest c.rest_accepted) in
    rw (c.both, c'.both) (omega arith)

all-worked : (on : ℕ) (t : Table) (ls : List (List ℕ)) (xs : List Label) → labels_verdict on t 0 0 0 ls ≡ accepted xs → worked_length xs ≤ most_worked
unfolding labels_verdict worked_length
all-worked on t [] xs e = let none : xs ≡ [] = cc in rw none (omega arith)
all-worked on t (l ∷ ls) xs e = omega (arith, labels_worked on t 0 0 0 l ls xs e)

-- For every table and accepted name: the answer is no longer than the worked length, and that is within its limit.
pub record Shorter (ls : List Label) : Type 0 where
  pub answer-fits : length (name_answer ls) ≤ worked_length ls
  pub worked-fits : worked_length ls ≤ most_worked

pub answer-length : (on : ℕ) (words name : List ℕ) (room work : ℕ) (ls : List Label) → name_verdict on words name room work ≡ accepted ls → Shorter ls
answer-length on words name room work ls e =
    let a = name_accepts on words name room work ls e in
    record {
      answer-fits = joined_length ls (every_label on a.table (λ x. length (answer x) ≤ x.worked) (label-answer-length a.table) 0 0 0 (labels_of name) ls a.labels);
      worked-fits = all-worked on a.table (labels_of name) ls a.labels;
    }
