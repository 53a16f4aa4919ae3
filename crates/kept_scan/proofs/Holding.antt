-- Steps that are laid down with their text as it is, one after another.
use Prim.Native.Nat.{ℕ, ◌+◌, ◌-◌, ◌≤◌, ◌<◌}
use native.Mathlib.Omega.{arith}
use native.Mathlib.Nat.{add-zero}
use native.Mathlib.Numerals.{add-one}
use mathlib.Core.Path.{◌≡◌, refl, sym, ◌∙◌, ap}
use mathlib.Core.Bool.{true, false}
use mathlib.Core.List.{List, [], ◌∷◌, ◌++◌}
use lib.ListN.{length, get_or, take, drop, set, length-append, length-set}
use lib.Seq.{length-sets, take-suc, take_all}
use Rattle.limits.specs.Limits.{most_worked, least_work}
use Rattle.table.specs.declared.Span.{Span}
use Rattle.table.specs.Table.{Table}
use Rattle.text.specs.Decomposition.{class_of, four_rounds}
use Rattle.decomposition.specs.Rounds.{Decomposed}
use Rattle.tokens.specs.Scan as scan
use Rattle.tokens.specs.Scan.{Step}
use Rattle.laying.specs.declared.Run.{Run}
use Rattle.laying.specs.Laying.{step_text, laid, Laying, PutAt, EmojiPut}
use Rattle.laying.proofs.LayingLaws.{four_joins, kept_joins, laid_snoc, laid_none, laid-text, laying_start, laying_empty, laying_text, laying_ignored}
use Rattle.laying.proofs.Putting.{put_start, put_more, put_stop}
use Rattle.std.specs.Prelude.{Option as Answer, Some, None}
use Rattle.kept_scan.specs.declared.Held.{Held}
use Rattle.kept_scan.specs.Passing.{step_passes, step_class, passes, last_class, steps_pass, class_after}
use Rattle.kept_scan.specs.Keeping.{as_it_is, Keeping, MayKeep, TextKept, ItemsKept, EmojiKept}
use Rattle.kept_scan.proofs.Passes.{class_snoc, pass_more, pass_text, class-text}

none_of : (l : List ℕ) → length l ≡ 0 → l ≡ []
none_of [] e = refl
none_of (x ∷ l) e = absurd (omega arith)

-- one codepoint and its tag, put behind the first n
one_put : (w : List ℕ) (n c tag : ℕ) → least_work ≤ length w → n < most_worked → PutAt w (set (set w n c) (most_worked + n) tag) n (c ∷ []) (tag ∷ []) (n + 1)
one_put w n c tag big room =
    let e : n + 0 ≡ n = add-zero n in
    let p = put_more w n (c ∷ []) tag 2 w tag 0 big (omega arith) (put_start w n (c ∷ []) tag 2 (omega arith)) in
    put_stop w n (c ∷ []) tag 2 (set (set w n c) (most_worked + n) tag) 2 1 (omega arith) (rw e at p)

module _ (t : Table) where
  pub keeping_start : (w : List ℕ) → Keeping t [] (record { run = record { tally = record { worked = 0; emoji = false; text = false }; tag = 1 }; worked = 0; class = 0 }) w
  unfolding laid steps_pass class_after
  keeping_start w = record { lays = laying_start as_it_is w; few = omega arith; worked = refl; passes = refl; class = refl }

  -- no text at all
  pub keeping_empty : (ss : List Step) (held : Held) (w : List ℕ) → Keeping t ss held w → Keeping t (ss ++ scan.text [] ∷ []) held w
  unfolding step_passes step_class passes last_class
  keeping_empty ss held w k =
      record {
        lays = laying_empty as_it_is kept_joins ss held.run w k.lays;
        few = k.few;
        worked = k.worked ∙ ap length (sym (laid_none (four_rounds t) (four_joins t) ss));
        passes = pass_more t ss (scan.text []) refl k.passes;
        class = k.class ∙ sym (class_snoc t 0 ss (scan.text []));
      }

  pub keeping_ignored : (ss : List Step) (held : Held) (w : List ℕ) → Keeping t ss held w → Keeping t (ss ++ scan.ignored ∷ []) held w
  unfolding step_passes step_class step_text
  keeping_ignored ss held w k =
      record {
        lays = laying_ignored as_it_is ss held.run w k.lays;
        few = k.few;
        worked = rw (laid_snoc (four_rounds t) ss scan.ignored, length-append (laid (four_rounds t) ss) []) (omega (arith, k.worked));
        passes = pass_more t ss scan.ignored refl k.passes;
        class = k.class ∙ sym (class_snoc t 0 ss scan.ignored);
      }

  module _ (w : List ℕ) (c : ℕ) (held : Held) where
    pub text-given : TextKept t w w c held None
    text-given = record { same = refl; keeps = λ ss a p. tt }

    -- c is laid down as it is: its decomposition is counted, and not written
    module _ (class worked : ℕ) (big : least_work ≤ length w) (m : MayKeep t held class c) (out : List ℕ) (d : Decomposed t c (take 0 w) out held.worked worked) where
      abbrev n : ℕ
      n = held.run.tally.worked

      abbrev w' : List ℕ
      w' = set (set (out ++ drop 0 w) n c) (most_worked + n) held.run.tag

      abbrev r : Held
      r = record { run = record { tally = record { worked = n + 1; emoji = held.run.tally.emoji; text = true }; tag = 2 }; worked = worked; class = class }

      unwritten : out ++ drop 0 w ≡ w
      unwritten = ap (λ (l : List ℕ). l ++ w) (none_of out (ap length d.written.put ∙ length-sets [] held.worked (four_rounds t (c ∷ []))))

      pub write-room : n < length (out ++ drop 0 w)
      write-room = rw unwritten (omega (arith, m.room))

      pub tag_room : most_worked + n < length (set (out ++ drop 0 w) n c)
      tag_room = rw unwritten (simp length-set (omega (arith, m.room)))

      put : PutAt w w' n (c ∷ []) (held.run.tag ∷ []) (n + 1)
      put = rw unwritten (one_put w n c held.run.tag big m.room)

      more : class ≡ class_of t c → (ss : List Step) (a : List ℕ) → Keeping t (ss ++ scan.text a ∷ []) held w → Keeping t (ss ++ scan.text (a ++ c ∷ []) ∷ []) r w'
      more k ss a p =
          let long : length (laid (four_rounds t) (ss ++ scan.text (a ++ c ∷ []) ∷ [])) ≡ length (laid (four_rounds t) (ss ++ scan.text a ∷ [])) + length (four_rounds t (c ∷ [])) =
          rw (laid-text (four_rounds t) (four_joins t) ss a (c ∷ [])) (length-append (laid (four_rounds t) (ss ++ scan.text a ∷ [])) (four_rounds t (c ∷ []))) in
          record {
            lays = laying_text as_it_is kept_joins ss a held.run w w' c r.run p.lays p.few put refl refl refl;
            few = omega (arith, m.room);
            worked = omega (arith, d.written.end, p.worked, long);
            passes = pass_text t ss a c p.passes m.outside (rw (← p.class, ← k) m.order);
            class = k ∙ class-text t ss a c;
          }

      pub text-kept : class ≡ class_of t c → TextKept t w w' c held (Some r)
      text-kept k = record { same = put.same; keeps = λ ss a p. more k ss a p }

  -- the first i items are laid down
  pub record Itemed (s w₀ : List ℕ) (held : Held) (w : List ℕ) (r : Held) (i : ℕ) : Type 0 where
    pub inside : i ≤ length s
    pub same : length w ≡ length w₀
    pub keeps : (ss : List Step) → Keeping t ss held w₀ → Keeping t (ss ++ scan.text (take i s) ∷ []) r w

  module _ (s w₀ : List ℕ) (held : Held) where
    pub items_start : Itemed s w₀ held w₀ held 0
    items_start = record { inside = omega arith; same = refl; keeps = λ ss p. keeping_empty ss held w₀ p }

    module _ (w : List ℕ) (r : Held) (i : ℕ) (p : Itemed s w₀ held w r i) where
      pub items_more : (w' : List ℕ) (x : Answer Held) → i < length s → TextKept t w w' (get_or s i 0) r x → (r' : Held) → x ≡ Some r' → Itemed s w₀ held w' r' (i + 1)
      items_more w' x h q' r' e =
          let q : TextKept t w w' (get_or s i 0) r (Some r') = rw e at q' in
          record {
            inside = omega arith;
            same = q.same ∙ p.same;
            keeps = λ ss l. rw (add-one i, take-suc s i 0 h) (q.keeps ss (take i s) (p.keeps ss l));
          }

      pub items_given : (v : List ℕ) (x : Answer Held) → TextKept t w v (get_or s i 0) r x → ItemsKept t w₀ v s held None
      items_given v x q = record { same = q.same ∙ p.same; keeps = λ ss l. tt }

      pub items_stop : length s ≤ i → ItemsKept t w₀ w s held (Some r)
      items_stop h = record { same = p.same; keeps = λ ss l. rw (take_all i s h) at (p.keeps ss l) }

-- an emoji is laid down
module _ (ws w : List ℕ) (s : Span) (held : Held) where
  pub emoji-given : (v : List ℕ) → length v ≡ length w → EmojiKept ws w v s held None
  emoji-given v same = record { same = same; keeps = λ t ss f q p. tt }

  pub emoji-kept : (w' : List ℕ) (next : Run) → EmojiPut ws w w' s held.run next → next.tally.worked ≤ most_worked → (worked : ℕ)
      → worked ≡ held.worked + (next.tally.worked - held.run.tally.worked)
      → EmojiKept ws w w' s held (Some (record { run = next; worked = worked; class = 0 }))
  unfolding step_passes step_class step_text
  emoji-kept w' next p few worked e =
      record {
        same = p.same;
        keeps = λ t ss f q k.
            let l : Laying as_it_is (ss ++ scan.emoji f ∷ []) next w' = p.lays as_it_is ss f q k.lays in
            let kept : length (laid as_it_is (ss ++ scan.emoji f ∷ [])) ≡ length (laid as_it_is ss) + length f.stripped =
            rw (laid_snoc as_it_is ss (scan.emoji f)) (length-append (laid as_it_is ss) f.stripped) in
            let full : length (laid (four_rounds t) (ss ++ scan.emoji f ∷ [])) ≡ length (laid (four_rounds t) ss) + length f.stripped =
            rw (laid_snoc (four_rounds t) ss (scan.emoji f)) (length-append (laid (four_rounds t) ss) f.stripped) in
            record {
              lays = l;
              few = few;
              worked = omega (arith, k.worked, l.worked few, k.lays.worked k.few, kept, full, p.grows);
              passes = pass_more t ss (scan.emoji f) refl k.passes;
              class = sym (class_snoc t 0 ss (scan.emoji f));
            };
      }
