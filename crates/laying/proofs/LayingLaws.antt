-- Laying steps down one after another, and that the tokens of the steps then stand in the work area.
use Prim.Native.Nat.{ℕ, zero, suc, ◌+◌, ◌≤◌, ◌<◌}
use native.Mathlib.Nat.{zero-add, suc-add}
use native.Mathlib.Omega.{arith}
use mathlib.Core.Path.{◌≡◌, refl, sym, ◌∙◌, ap}
use mathlib.Core.Bool.{Bool, true, false, not, ◌||◌, or_assoc, or-false, or-true}
use mathlib.Core.List.{List, [], ◌∷◌, ◌++◌, append-nil, append_assoc}
use lib.ListN.{length, replicate, length-append, replicate-append-replicate}
use Rattle.lists.specs.Lists.{any, is_empty}
use Rattle.lists.specs.Laws.{joined_append}
use Rattle.table.specs.Table.{Table}
use Rattle.text.specs.Decomposition.{four_rounds}
use Rattle.decomposition.proofs.RoundLaws.{rounds_join, rounds-four}
use Rattle.laying.specs.declared.Run.{Run}
use Rattle.finder.specs.Emoji.{Found}
use Rattle.tokens.specs.Scan as scan
use Rattle.tokens.specs.Scan.{Step}
use Rattle.tokens.specs.Tokens.{emoji, text, worked}
use Rattle.limits.specs.Limits.{most_worked}
use Rattle.laying.specs.Laying.{run_tags, next_tag, Put, Joins, step_text, step_tags, step_tag, laid, tags_from, tag_after, step_emoji, step_texts, Laying, PutAt}

pub four_joins : (t : Table) → Joins (four_rounds t)
unfolding four_rounds
four_joins t =
    record { none = refl; join = λ a b. rw (← rounds-four t (a ++ b), ← rounds-four t a, ← rounds-four t b) (rounds_join 4 t a b) }

-- the text as it is
pub kept_joins : Joins (λ s. s)
kept_joins = record { none = refl; join = λ a b. refl }

-- the tags of a text in two parts
later_tags : (n : ℕ) → run_tags 2 2 n ≡ replicate n 2
later_tags zero = refl
later_tags (suc n) = refl

pub tags_join : (m a b : ℕ) → run_tags m 2 (a + b) ≡ run_tags m 2 a ++ run_tags (next_tag m a) 2 b
tags_join m zero b = rw (zero-add b)
tags_join m (suc a) b =
    rw (suc-add a b, later_tags b) (ap (λ (r : List ℕ). m ∷ r) (sym (replicate-append-replicate a b 2)))

later_next : (n : ℕ) → next_tag 2 n ≡ 2
later_next zero = refl
later_next (suc n) = refl

next_join : (m a b : ℕ) → next_tag m (a + b) ≡ next_tag (next_tag m a) b
next_join m zero b = rw (zero-add b)
next_join m (suc a) b = rw (suc-add a b) (sym (later_next b))

any_snoc : (p : Step → Bool) (ss : List Step) (s : Step) → any p (ss ++ s ∷ []) ≡ (any p ss || p s)
any_snoc p [] s = or-false (p s)
any_snoc p (x ∷ ss) s = rw (any_snoc p ss s) (sym (or_assoc (p x) (any p ss) (p s)))

-- one step more, at the end
module _ (put : Put) where
  pub laid_snoc : (ss : List Step) (s : Step) → laid put (ss ++ s ∷ []) ≡ laid put ss ++ step_text put s
  unfolding laid
  laid_snoc ss s = rw (joined_append (step_text put) ss (s ∷ []), append-nil (step_text put s))

  tags_snoc : (m : ℕ) (ss : List Step) (s : Step) → tags_from put m (ss ++ s ∷ []) ≡ tags_from put m ss ++ step_tags put (tag_after put m ss) s
  unfolding tags_from tag_after
  tags_snoc m [] s = append-nil (step_tags put m s)
  tags_snoc m (x ∷ ss) s =
      ap (λ (r : List ℕ). step_tags put m x ++ r) (tags_snoc (step_tag put m x) ss s)
      ∙ sym (append_assoc (step_tags put m x) (tags_from put (step_tag put m x) ss) (step_tags put (tag_after put (step_tag put m x) ss) s))

  tag_snoc : (m : ℕ) (ss : List Step) (s : Step) → tag_after put m (ss ++ s ∷ []) ≡ step_tag put (tag_after put m ss) s
  unfolding tag_after
  tag_snoc m [] s = refl
  tag_snoc m (x ∷ ss) s = tag_snoc (step_tag put m x) ss s

  pub laying_start : (w : List ℕ) → Laying put [] (record { tally = record { worked = 0; emoji = false; text = false }; tag = 1 }) w
  unfolding laid tags_from tag_after
  laying_start w =
      record { over = λ h. absurd (omega arith); worked = λ h. refl; emoji = refl; text = refl; tag = λ h. refl; words = λ h. refl; tags = λ h. refl }

  -- one step more, where the codepoints so far are not over
  pub laying_step : (ss : List Step) (run : Run) (w w' : List ℕ) (s : Step) (r : Run) → Laying put ss run w → run.tally.worked ≤ most_worked
      → PutAt w w' run.tally.worked (step_text put s) (step_tags put run.tag s) r.tally.worked
      → r.tally.emoji ≡ (run.tally.emoji || step_emoji s) → r.tally.text ≡ (run.tally.text || step_texts s) → r.tag ≡ step_tag put run.tag s
      → Laying put (ss ++ s ∷ []) r w'
  laying_step ss run w w' s r l few p e x m =
      let count : r.tally.worked ≡ length (laid put (ss ++ s ∷ [])) =
      rw (laid_snoc ss s, length-append (laid put ss) (step_text put s), ← l.worked few) p.end in
      record {
        over = λ h. omega arith;
        worked = λ h. count;
        emoji = rw (any_snoc step_emoji ss s, ← l.emoji) e;
        text = rw (any_snoc step_texts ss s, ← l.text) x;
        tag = λ h. rw (tag_snoc 1 ss s, ← l.tag few) m;
        words = λ h. rw (laid_snoc ss s, ← l.words few) (p.words h);
        tags = λ h. rw (tags_snoc 1 ss s, ← l.tag few, ← l.tags few) (p.beside h);
      }

  -- one step more, where they are
  pub laying_over : (ss : List Step) (run : Run) (w w' : List ℕ) (s : Step) (r : Run) → Laying put ss run w → most_worked < run.tally.worked
      → r.tally.worked ≡ run.tally.worked → r.tally.emoji ≡ (run.tally.emoji || step_emoji s) → r.tally.text ≡ (run.tally.text || step_texts s)
      → Laying put (ss ++ s ∷ []) r w'
  laying_over ss run w w' s r l h n e x =
      let long : length (laid put (ss ++ s ∷ [])) ≡ length (laid put ss) + length (step_text put s) =
      rw (laid_snoc ss s) (length-append (laid put ss) (step_text put s)) in
      let more : most_worked < length (laid put ss) = l.over h in
      record {
        over = λ k. omega arith;
        worked = λ k. absurd (omega arith);
        emoji = rw (any_snoc step_emoji ss s, ← l.emoji) e;
        text = rw (any_snoc step_texts ss s, ← l.text) x;
        tag = λ k. absurd (omega arith);
        words = λ k. absurd (omega arith);
        tags = λ k. absurd (omega arith);
      }

emoji_tags : (n : ℕ) → run_tags 0 0 n ≡ replicate n 0
emoji_tags zero = refl
emoji_tags (suc n) = refl

-- two lists of steps that lay the same down
record Alike (put : Put) (ss ss' : List Step) : Type 0 where
  words : laid put ss ≡ laid put ss'
  emoji : any step_emoji ss ≡ any step_emoji ss'
  text : any step_texts ss ≡ any step_texts ss'
  tag : tag_after put 1 ss ≡ tag_after put 1 ss'
  tags : tags_from put 1 ss ≡ tags_from put 1 ss'

laying_alike : (put : Put) (ss ss' : List Step) (run : Run) (w : List ℕ) → Alike put ss ss' → Laying put ss run w → Laying put ss' run w
laying_alike put ss ss' run w a l =
    record {
      over = λ h. rw (← a.words) (l.over h);
      worked = λ h. l.worked h ∙ ap length a.words;
      emoji = l.emoji ∙ a.emoji;
      text = l.text ∙ a.text;
      tag = λ h. l.tag h ∙ a.tag;
      words = λ h. l.words h ∙ a.words;
      tags = λ h. l.tags h ∙ a.tags;
    }

some-joined : (a b : List ℕ) → (not (is_empty a) || not (is_empty b)) ≡ not (is_empty (a ++ b))
some-joined [] b = refl
some-joined (c ∷ a) b = refl

module _ (put : Put) (joins : Joins put) (ss : List Step) where
  -- no text at all
  none_alike : Alike put ss (ss ++ scan.text [] ∷ [])
  unfolding step_text step_tags step_tag
  none_alike =
      record {
        words = rw (laid_snoc put ss (scan.text []), joins.none) (sym (append-nil (laid put ss)));
        emoji = rw (any_snoc step_emoji ss (scan.text [])) (sym (or-false (any step_emoji ss)));
        text = rw (any_snoc step_texts ss (scan.text [])) (sym (or-false (any step_texts ss)));
        tag = rw (tag_snoc put 1 ss (scan.text []), joins.none);
        tags = rw (tags_snoc put 1 ss (scan.text []), joins.none) (sym (append-nil (tags_from put 1 ss)));
      }

  -- text in two steps is text in one
  join_alike : (a b : List ℕ) → Alike put ((ss ++ scan.text a ∷ []) ++ scan.text b ∷ []) (ss ++ scan.text (a ++ b) ∷ [])
  unfolding step_text step_tags step_tag
  join_alike a b =
      let s : List Step = ss ++ scan.text a ∷ [] in
      let m : ℕ = tag_after put 1 ss in
      let ra : List ℕ = put a in
      let rb : List ℕ = put b in
      let n : length (put (a ++ b)) ≡ length ra + length rb = rw (joins.join a b) (length-append ra rb) in
      let tag : tag_after put 1 s ≡ next_tag m (length ra) = tag_snoc put 1 ss (scan.text a) in
      record {
        words =
            rw (laid_snoc put s (scan.text b), laid_snoc put ss (scan.text a), laid_snoc put ss (scan.text (a ++ b)), joins.join a b)
            (append_assoc (laid put ss) ra rb);
        emoji =
            rw (any_snoc step_emoji s (scan.text b), any_snoc step_emoji ss (scan.text a), any_snoc step_emoji ss (scan.text (a ++ b)))
            (or-false (any step_emoji ss || false));
        text =
            rw (any_snoc step_texts s (scan.text b), any_snoc step_texts ss (scan.text a), any_snoc step_texts ss (scan.text (a ++ b)), ← some-joined a b)
            (or_assoc (any step_texts ss) (not (is_empty a)) (not (is_empty b)));
        tag = rw (tag_snoc put 1 s (scan.text b), tag, tag_snoc put 1 ss (scan.text (a ++ b)), n) (sym (next_join m (length ra) (length rb)));
        tags =
            rw (tags_snoc put 1 s (scan.text b), tag, tags_snoc put 1 ss (scan.text a), tags_snoc put 1 ss (scan.text (a ++ b)), n, tags_join m (length ra) (length rb))
            (append_assoc (tags_from put 1 ss) (run_tags m 2 (length ra)) (run_tags (next_tag m (length ra)) 2 (length rb)));
      }

  -- what is laid down with no text more, and with a text more
  pub laid_none : laid put (ss ++ scan.text [] ∷ []) ≡ laid put ss
  laid_none = sym none_alike.words

  pub laid-text : (a b : List ℕ) → laid put (ss ++ scan.text (a ++ b) ∷ []) ≡ laid put (ss ++ scan.text a ∷ []) ++ put b
  unfolding step_text
  laid-text a b = sym (join_alike a b).words ∙ laid_snoc put (ss ++ scan.text a ∷ []) (scan.text b)

  pub laying_empty : (run : Run) (w : List ℕ) → Laying put ss run w → Laying put (ss ++ scan.text [] ∷ []) run w
  laying_empty run w l = laying_alike put ss (ss ++ scan.text [] ∷ []) run w none_alike l

  -- one codepoint of text more
  module _ (a : List ℕ) (run : Run) (w w' : List ℕ) (c : ℕ) (r : Run) (l : Laying put (ss ++ scan.text a ∷ []) run w) where
    one_more : Laying put ((ss ++ scan.text a ∷ []) ++ scan.text (c ∷ []) ∷ []) r w' → Laying put (ss ++ scan.text (a ++ c ∷ []) ∷ []) r w'
    one_more m =
        laying_alike put ((ss ++ scan.text a ∷ []) ++ scan.text (c ∷ []) ∷ []) (ss ++ scan.text (a ++ c ∷ []) ∷ []) r w' (join_alike a (c ∷ [])) m

    pub laying_text : run.tally.worked ≤ most_worked
        → PutAt w w' run.tally.worked (put (c ∷ [])) (run_tags run.tag 2 (length (put (c ∷ [])))) r.tally.worked
        → r.tally.emoji ≡ run.tally.emoji → r.tally.text ≡ true → r.tag ≡ next_tag run.tag (length (put (c ∷ [])))
        → Laying put (ss ++ scan.text (a ++ c ∷ []) ∷ []) r w'
    unfolding step_text step_tags step_tag
    laying_text few p e x m =
        one_more
        (laying_step put (ss ++ scan.text a ∷ []) run w w' (scan.text (c ∷ [])) r l few p (e ∙ sym (or-false run.tally.emoji)) (x ∙ sym (or-true run.tally.text)) m)

    pub laying_text_over : most_worked < run.tally.worked → r.tally.worked ≡ run.tally.worked → r.tally.emoji ≡ run.tally.emoji → r.tally.text ≡ true
        → Laying put (ss ++ scan.text (a ++ c ∷ []) ∷ []) r w'
    laying_text_over h n e x =
        one_more
        (laying_over put (ss ++ scan.text a ∷ []) run w w' (scan.text (c ∷ [])) r l h n (e ∙ sym (or-false run.tally.emoji)) (x ∙ sym (or-true run.tally.text)))

module _ (put : Put) (ss : List Step) where
  module _ (run : Run) (w w' : List ℕ) (f : Found) (r : Run) (l : Laying put ss run w) (e : r.tally.emoji ≡ true) (x : r.tally.text ≡ run.tally.text) where
    pub laying_emoji : run.tally.worked ≤ most_worked → PutAt w w' run.tally.worked f.stripped (run_tags 0 0 (length f.stripped)) r.tally.worked
        → r.tag ≡ 1 → Laying put (ss ++ scan.emoji f ∷ []) r w'
    unfolding step_text step_tags step_tag
    laying_emoji few p m =
        laying_step put ss run w w' (scan.emoji f) r l few (rw (emoji_tags (length f.stripped)) at p)
        (e ∙ sym (or-true run.tally.emoji)) (x ∙ sym (or-false run.tally.text)) m

    pub laying_emoji_over : most_worked < run.tally.worked → r.tally.worked ≡ run.tally.worked → Laying put (ss ++ scan.emoji f ∷ []) r w'
    laying_emoji_over h n =
        laying_over put ss run w w' (scan.emoji f) r l h n (e ∙ sym (or-true run.tally.emoji)) (x ∙ sym (or-false run.tally.text))

  ignored_alike : Alike put ss (ss ++ scan.ignored ∷ [])
  unfolding step_text step_tags step_tag
  ignored_alike =
      record {
        words = rw (laid_snoc put ss scan.ignored) (sym (append-nil (laid put ss)));
        emoji = rw (any_snoc step_emoji ss scan.ignored) (sym (or-false (any step_emoji ss)));
        text = rw (any_snoc step_texts ss scan.ignored) (sym (or-false (any step_texts ss)));
        tag = sym (tag_snoc put 1 ss scan.ignored);
        tags = rw (tags_snoc put 1 ss scan.ignored) (sym (append-nil (tags_from put 1 ss)));
      }

  pub laying_ignored : (run : Run) (w : List ℕ) → Laying put ss run w → Laying put (ss ++ scan.ignored ∷ []) run w
  laying_ignored run w l = laying_alike put ss (ss ++ scan.ignored ∷ []) run w ignored_alike l
