-- Demand 3, second half: "take any two names accepted with one table, sound or not, neither name empty. Joined by a full stop, they are
-- accepted exactly when the joined name keeps within the length limits and the room. The answer is then the first answer, a full stop and
-- the second answer. The labels are those of the first name and then those of the second, each with its kind."
use Rattle.std.specs.Prelude.{ℕ, suc, ◌+◌, ◌≤◌, Bool, not, cond, length, replicate, ltb}
use Rattle.std.proofs.Common.{arith, sym, ap, ◌∙◌, length-append, ltb-false, le-ltb}
use Rattle.std.proofs.Math.Path.{◌≡◌, refl}
use Rattle.std.proofs.Math.Bool.{true, false}
use mathlib.Core.List.{List, [], ◌∷◌, ◌++◌, map, map-append}
use Rattle.std.proofs.Math.Option.{Option, none, some}
use Rattle.std.proofs.lemmas.List.{length-map}
use Rattle.lists.specs.Lists.{mem, on_some, place_with, split, join_with}
use Rattle.lists.specs.Splits.{split-some, split-joined, join_with_append}
use Rattle.answers.specs.Verdict.{Verdict, accepted, refused, next}
use Rattle.answers.specs.declared.Kind.{Kind}
use Rattle.table.specs.Table.{Table}
use Rattle.table.specs.Layout.{parse}
use Rattle.scalar.specs.Scalar.{is_scalar}
use Rattle.limits.specs.Limits.{most_input, most_worked, least_work}
use Rattle.lists.specs.Filled.{filled}
use Rattle.ending.specs.Ending.{fitting}
use Rattle.name.specs.Label.{Label, stop, answer, admitted}
use Rattle.name.specs.Name.{labels_of, labels_verdict, worked_length, name_answer, name_verdict, name_result, name_call}
use Rattle.joining.specs.Places.{clash, place_with-none}
use Rattle.joining.specs.Labels.{spent, labels_fit, labels_count, labels_append, labels_both, joined_only_7}

-- "A joined name is the first name's codepoints, 2E, then the second's."
abbrev pub joined_name : List ℕ → List ℕ → List ℕ
joined_name a b = a ++ stop ∷ b

-- "It keeps within the limits and the room exactly when none of 2, 3, 7 and 15 applies"
pub record Within (name : List ℕ) (ls : List Label) (room work : ℕ) : Type 0 where
  pub not_2 : least_work ≤ work
  pub not_3 : length name ≤ most_input
  pub not_7 : worked_length ls ≤ most_worked
  pub not_15 : length (name_answer ls) ≤ room

abbrev pub kind_of : Label → Kind
kind_of l = l.kind

-- what an accepted name rests on
pub record NameAccepts (on : ℕ) (words name : List ℕ) (room work : ℕ) (ls : List Label) : Type 0 where
  pub table : Table
  pub laid : parse words ≡ some table
  pub work-fits : least_work ≤ work
  pub input_fits : length name ≤ most_input
  pub scalars : place_with (λ c. not (is_scalar c)) 0 name ≡ none
  pub labels : labels_verdict on table 0 0 0 (labels_of name) ≡ accepted ls
  pub room_fits : length (name_answer ls) ≤ room

-- after 15 the labels are those before it, and they have room
after_15 : (room : ℕ) (v : Verdict (List Label)) (ls : List Label) → next v (λ xs. fitting room (length (name_answer xs)) xs) ≡ accepted ls → (v ≡ accepted ls) × (length (name_answer ls) ≤ room)
after_15 room (refused n q) ls e = clash n q ls e
after_15 room (accepted xs) ls e = go (ltb room (length (name_answer xs))) refl e
  where
    go : (b : Bool) → ltb room (length (name_answer xs)) ≡ b → cond b (refused 15 0) (accepted xs) ≡ accepted ls → (accepted xs ≡ accepted ls) × (length (name_answer ls) ≤ room)
    go true eb f = clash 15 0 ls f
    go false eb f = let same : xs ≡ ls = cc in (f, rw (← same) (ltb-false room (length (name_answer xs)) eb))

pub name_accepts : (on : ℕ) (words name : List ℕ) (room work : ℕ) (ls : List Label) → name_verdict on words name room work ≡ accepted ls → NameAccepts on words name room work ls
unfolding name_verdict admitted
name_accepts on words name room work ls =
    go (parse words) refl (ltb work least_work) refl (ltb most_input (length name)) refl (place_with (λ c. not (is_scalar c)) 0 name) refl
  where
    go : (o : Option Table) → parse words ≡ o → (b : Bool) → ltb work least_work ≡ b → (c : Bool) → ltb most_input (length name) ≡ c → (p : Option ℕ) → place_with (λ c. not (is_scalar c)) 0 name ≡ p → next (next (on_some o (λ t. cond b (refused 2 0) (cond c (refused 3 0) (on_some p (refused 4) (accepted t)))) (refused 1 0)) (λ t. labels_verdict on t 0 0 0 (labels_of name))) (λ xs. fitting room (length (name_answer xs)) xs) ≡ accepted ls → NameAccepts on words name room work ls
    go none eo b eb c ec p ep e = clash 1 0 ls e
    go (some t) eo true eb c ec p ep e = clash 2 0 ls e
    go (some t) eo false eb true ec p ep e = clash 3 0 ls e
    go (some t) eo false eb false ec (some i) ep e = clash 4 i ls e
    go (some t) eo false eb false ec none ep e =
        let r = after_15 room (labels_verdict on t 0 0 0 (labels_of name)) ls e in
        record { table = t; laid = eo; work-fits = ltb-false work least_work eb; input_fits = ltb-false most_input (length name) ec; scalars = ep; labels = r.0; room_fits = r.1 }

pub accepts_name : (on : ℕ) (words name : List ℕ) (room work : ℕ) (ls : List Label) → NameAccepts on words name room work ls → name_verdict on words name room work ≡ accepted ls
unfolding name_verdict admitted
accepts_name on words name room work ls a =
    rw (a.laid, le-ltb work least_work a.work-fits, le-ltb most_input (length name) a.input_fits, a.scalars, a.labels, le-ltb room (length (name_answer ls)) a.room_fits)

-- Laws of the parts

place_with_append : (p : ℕ → Bool) (k : ℕ) (a b : List ℕ) → place_with p k a ≡ none → place_with p k b ≡ none → place_with p k (a ++ b) ≡ none
place_with_append p k [] b e f = f
place_with_append p k (x ∷ a) b e f = go (p x) e (λ g. place_with_append p (suc k) a b g (place_with-none p k (suc k) b f))
  where
    go : (t : Bool) → cond t (some k) (place_with p (suc k) a) ≡ none → (place_with p (suc k) a ≡ none → place_with p (suc k) (a ++ b) ≡ none) → cond t (some k) (place_with p (suc k) (a ++ b)) ≡ none
    go true g r = cc
    go false g r = r g

labels_of-split : (a : List ℕ) → 1 ≤ length a → labels_of a ≡ split stop a
unfolding labels_of
labels_of-split [] h = absurd (let z : 1 ≤ 0 = h in omega arith)
labels_of-split (c ∷ a) h = refl

pub labels_of-joined : (a b : List ℕ) → 1 ≤ length a → 1 ≤ length b → labels_of (joined_name a b) ≡ labels_of a ++ labels_of b
labels_of-joined a b h k =
    labels_of-split (joined_name a b) (simp length-append (omega arith)) ∙ split-joined stop a b
    ∙ rw (labels_of-split a h, labels_of-split b k) refl

spent-worked : (ls : List Label) → 1 ≤ length ls → spent ls ≡ worked_length ls + 1
unfolding spent worked_length
spent-worked [] h = absurd (let z : 1 ≤ 0 = h in omega arith)
spent-worked (l ∷ []) h = omega arith
spent-worked (l ∷ m ∷ ms) h = let e : spent (m ∷ ms) ≡ worked_length (m ∷ ms) + 1 = spent-worked (m ∷ ms) (omega arith) in omega arith

spent_append : (xs ys : List Label) → spent (xs ++ ys) ≡ spent xs + spent ys
unfolding spent
spent_append [] ys = omega arith
spent_append (x ∷ xs) ys = let e = spent_append xs ys in omega arith

-- the answer, where both names have labels
pub answer-joined : (xs ys : List Label) → 1 ≤ length xs → 1 ≤ length ys → name_answer (xs ++ ys) ≡ name_answer xs ++ stop ∷ name_answer ys
unfolding name_answer
answer-joined xs ys h k =
    ap (join_with stop) (map-append answer xs ys)
    ∙ join_with_append stop (map answer xs) (map answer ys) (rw (length-map xs answer) h) (rw (length-map ys answer) k)

pub worked-joined : (xs ys : List Label) → 1 ≤ length xs → 1 ≤ length ys → worked_length (xs ++ ys) ≡ worked_length xs + worked_length ys + 1
worked-joined xs ys h k =
    let a = spent-worked xs h in
    let b = spent-worked ys k in
    let c = spent_append xs ys in
    let d = spent-worked (xs ++ ys) (simp length-append (omega arith)) in
    omega arith

-- The theorem

pub record Joining (on : ℕ) (words a b : List ℕ) (xs ys : List Label) (room work : ℕ) : Type 0 where
  -- "Joined by a full stop, they are accepted exactly when the joined name keeps within the length limits and the room", and then with
  -- "the labels .. of the first name and then those of the second"
  pub accepts : Within (joined_name a b) (xs ++ ys) room work → name_verdict on words (joined_name a b) room work ≡ accepted (xs ++ ys)
  pub keeps : (zs : List Label) → name_verdict on words (joined_name a b) room work ≡ accepted zs → Within (joined_name a b) (xs ++ ys) room work
  -- no other refusal is given
  pub refuses : (n p : ℕ) → name_verdict on words (joined_name a b) room work ≡ refused n p → mem n (2 ∷ 3 ∷ 7 ∷ 15 ∷ []) ≡ true
  -- "The answer is then the first answer, a full stop and the second answer."
  pub answers : name_answer (xs ++ ys) ≡ name_answer xs ++ stop ∷ name_answer ys
  -- "each with its kind"
  pub kinds : map kind_of (xs ++ ys) ≡ map kind_of xs ++ map kind_of ys
  -- the labels as split at 2E
  pub labels : labels_of (joined_name a b) ≡ labels_of a ++ labels_of b
  -- "its length, its worked length up to the last label and the length of its answer are each one more than those of the two names
  -- together"
  pub input_length : length (joined_name a b) ≡ length a + length b + 1
  pub worked-length : worked_length (xs ++ ys) ≡ worked_length xs + worked_length ys + 1
  pub answer-length : length (name_answer (xs ++ ys)) ≡ length (name_answer xs) + length (name_answer ys) + 1

-- Both names are accepted with one table and one setting, with any buffers; the joined name may be given others.
module _ (on : ℕ) (words a b : List ℕ) (xs ys : List Label) (room₁ work₁ room₂ work₂ room work : ℕ) (a-some : 1 ≤ length a) (b-some : 1 ≤ length b) (first : name_verdict on words a room₁ work₁ ≡ accepted xs) (second : name_verdict on words b room₂ work₂ ≡ accepted ys) where
  A : NameAccepts on words a room₁ work₁ xs
  A = name_accepts on words a room₁ work₁ xs first

  B : NameAccepts on words b room₂ work₂ ys
  B = name_accepts on words b room₂ work₂ ys second

  same-table : B.table ≡ A.table
  same-table = let e : ◌≡◌ {A = Option Table} (some B.table) (some A.table) = sym B.laid ∙ A.laid in cc

  B-labels : labels_verdict on A.table 0 0 0 (labels_of b) ≡ accepted ys
  B-labels = rw (← same-table) B.labels

  some_labels : (n : List ℕ) → 1 ≤ length n → (t : Table) (zs : List Label) → labels_verdict on t 0 0 0 (labels_of n) ≡ accepted zs → 1 ≤ length zs
  some_labels n h t zs e = rw (labels_count on t 0 0 0 (labels_of n) zs e, labels_of-split n h) (split-some stop n)

  xs_some : 1 ≤ length xs
  xs_some = some_labels a a-some A.table xs A.labels

  ys_some : 1 ≤ length ys
  ys_some = some_labels b b-some B.table ys B.labels

  -- 4 is given by a codepoint of one of the names
  all_scalars : place_with (λ c. not (is_scalar c)) 0 (joined_name a b) ≡ none
  all_scalars = place_with_append (λ c. not (is_scalar c)) 0 a (stop ∷ b) A.scalars (place_with-none (λ c. not (is_scalar c)) 0 1 b B.scalars)

  both_accepted : Within (joined_name a b) (xs ++ ys) room work → name_verdict on words (joined_name a b) room work ≡ accepted (xs ++ ys)
  both_accepted w = accepts_name on words (joined_name a b) room work (xs ++ ys) (record { table = A.table; laid = A.laid; work-fits = w.not_2; input_fits = w.not_3; scalars = all_scalars; labels = rw (labels_of-joined a b a-some b-some) (labels_append on A.table 0 0 0 (labels_of a) xs 0 0 0 (labels_of b) ys A.labels B-labels fits); room_fits = w.not_15 })
    where
      fits : 0 + spent (xs ++ ys) ≤ suc most_worked
      fits = let e = spent-worked (xs ++ ys) (simp length-append (omega (arith, xs_some))) in omega (arith, w.not_7)

  both_keep : (zs : List Label) → name_verdict on words (joined_name a b) room work ≡ accepted zs → Within (joined_name a b) (xs ++ ys) room work
  both_keep zs e =
      let C = name_accepts on words (joined_name a b) room work zs e in
      let table : C.table ≡ A.table = let e : ◌≡◌ {A = Option Table} (some C.table) (some A.table) = sym C.laid ∙ A.laid in cc in
      let labels : labels_verdict on A.table 0 0 0 (labels_of a ++ labels_of b) ≡ accepted zs = rw (← table, ← labels_of-joined a b a-some b-some) C.labels in
      let all : zs ≡ xs ++ ys = labels_both on A.table 0 0 0 (labels_of a) (labels_of b) zs 0 0 0 xs 0 0 0 ys labels A.labels B-labels in
      let fit : 0 + spent zs ≤ suc most_worked = labels_fit on A.table 0 0 0 (labels_of a ++ labels_of b) zs (omega arith) labels in
      let counted : spent (xs ++ ys) ≡ worked_length (xs ++ ys) + 1 = spent-worked (xs ++ ys) (simp length-append (omega (arith, xs_some))) in
      let fit' : 0 + spent (xs ++ ys) ≤ suc most_worked = rw (← all) fit in
      record { not_2 = C.work-fits; not_3 = C.input_fits; not_7 = omega arith; not_15 = rw (← all) C.room_fits }

  only_limits : (n p : ℕ) → name_verdict on words (joined_name a b) room work ≡ refused n p → mem n (2 ∷ 3 ∷ 7 ∷ 15 ∷ []) ≡ true
  unfolding name_verdict admitted
  only_limits n p e = go (ltb work least_work) (ltb most_input (length (joined_name a b))) (labels_verdict on A.table 0 0 0 (labels_of (joined_name a b))) refl (rw (A.laid, all_scalars) at e)
    where
      last : (zs : List Label) (b : Bool) → ◌≡◌ {A = Verdict (List Label)} (cond b (refused 15 0) (accepted zs)) (refused n p) → mem n (2 ∷ 3 ∷ 7 ∷ 15 ∷ []) ≡ true
      last zs true f = let z : n ≡ 15 = cc in rw z
      last zs false f = clash n p zs (sym f)

      go : (f₂ f₃ : Bool) (v : Verdict (List Label)) → labels_verdict on A.table 0 0 0 (labels_of (joined_name a b)) ≡ v → next (next (cond f₂ (refused 2 0) (cond f₃ (refused 3 0) (accepted A.table))) (λ t. labels_verdict on t 0 0 0 (labels_of (joined_name a b)))) (λ zs. fitting room (length (name_answer zs)) zs) ≡ refused n p → mem n (2 ∷ 3 ∷ 7 ∷ 15 ∷ []) ≡ true
      go true c v ev f = let z : n ≡ 2 = cc in rw z
      go false true v ev f = let z : n ≡ 3 = cc in rw z
      go false false (accepted zs) ev f = last zs (ltb room (length (name_answer zs))) (rw ev at f)
      go false false (refused n' p') ev f =
          let g : ◌≡◌ {A = Verdict (List Label)} (refused n' p') (refused n p) = rw ev at f in
          let w : labels_verdict on A.table 0 0 0 (labels_of a ++ labels_of b) ≡ refused n p = rw (← labels_of-joined a b a-some b-some) (ev ∙ g) in
          let z : n ≡ 7 = joined_only_7 on A.table 0 0 0 (labels_of a) (labels_of b) 0 0 0 xs 0 0 0 ys n p A.labels B-labels w in
          rw z

  pub joining : Joining on words a b xs ys room work
  joining =
      record {
        accepts = both_accepted;
        keeps = both_keep;
        refuses = only_limits;
        answers = answer-joined xs ys xs_some ys_some;
        kinds = map-append kind_of xs ys;
        labels = labels_of-joined a b a-some b-some;
        input_length = simp length-append (omega arith);
        worked-length = worked-joined xs ys xs_some ys_some;
        answer-length = rw (answer-joined xs ys xs_some ys_some) (simp length-append (omega arith));
      }

-- The same of the call itself: its values and every word of both buffers.
pub joined_call : (on : ℕ) (words a b : List ℕ) (xs ys : List Label) (room work : ℕ) → Joining on words a b xs ys room work → Within (joined_name a b) (xs ++ ys) room work → name_call on words (joined_name a b) room work ≡ record { values = record { number = 0; place = 0; length = length (name_answer xs) + length (name_answer ys) + 1; labels = length (labels_of a) + length (labels_of b) }; answer = filled room (name_answer xs ++ stop ∷ name_answer ys); work = replicate work 0 }
unfolding name_call name_result
joined_call on words a b xs ys room work j w =
    let total : length (name_answer xs ++ stop ∷ name_answer ys) ≡ length (name_answer xs) + length (name_answer ys) + 1 = sym (ap length j.answers) ∙ j.answer-length in
    rw (j.accepts w, j.answers, j.labels, length-append (labels_of a) (labels_of b), total)
