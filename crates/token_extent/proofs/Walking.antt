-- The steps of a token, from the left: what the token has come to, and where it ends.
use Prim.Native.Nat.{ℕ, suc, ◌+◌, ◌-◌, ◌≤◌, ◌<◌}
use native.Mathlib.Omega.{arith}
use native.Mathlib.Numerals.{add-one}
use mathlib.Core.Path.{◌≡◌, refl, sym, ap, ◌∙◌}
use mathlib.Core.List.{List, [], ◌∷◌, ◌++◌, map, append_assoc, append-nil}
use mathlib.Core.Option.{Option, none, some}
use lib.ListN.{length, take, drop, length-drop, drop_of_length-le}
use lib.Seq.{take_all, drop-drop}
use Rattle.std.specs.Prelude.{Option as Answer, Some, None, is_some}
use Rattle.std.specs.Option.{option_flatten}
use mathlib.Core.Bool.{true, false, false≢true}
use Rattle.table.specs.Table.{Table}
use Rattle.tokens.specs.Scan as scan
use Rattle.tokens.specs.Scan.{Step, width, step_at, steps}
use Rattle.scanning.specs.Scanning.{first_step}
use Rattle.tokens.specs.Tokens.{tokens_of}
use Rattle.places.specs.Places.{Source, emoji, text, bare, placed_from}
use Rattle.places.specs.Cutting.{widths, step_wide, steps_next}
use Rattle.places.specs.Laws.{bare_from, some-before}
use Rattle.places.specs.Parts.{FirstOf, is_first}
use Rattle.token_extent.specs.declared.Stands.{Stands}
use Rattle.token_extent.specs.declared.Stands.TheVariants.{Emoji, Text, Nothing}
use Rattle.token_extent.specs.Ends.{Gives, ignored, disallowed, StandsIs, record_of, TokenEnds}

widths_append : (a b : List Step) → widths (a ++ b) ≡ widths a + widths b
widths_append [] b = omega arith
widths_append (s ∷ a) b = omega (arith, widths_append a b)

-- what the code keeps of the token so far
abbrev token_by : Option Source → Answer (Answer ℕ)
token_by none = None
token_by (some x) = Some (record_of x)

-- the first i codepoints are passed
pub record Walking (t : Table) (l : List ℕ) (token : Answer (Answer ℕ)) (i : ℕ) : Type 0 where
  pub o : Option Source
  pub own : List Step
  pub so_far : token ≡ token_by o
  pub split : steps t l ≡ own ++ steps t (drop i l)
  pub count : i ≡ widths own
  pub inside : i ≤ length l
  pub goes : (start n : ℕ) (ss : List Step) → placed_from none start n (own ++ ss) ≡ placed_from o start (n + i) ss

module _ (t : Table) (l : List ℕ) where
  pub walking_start : Walking t l None 0
  walking_start =
      record {
        o = none;
        own = [];
        so_far = refl;
        split = refl;
        count = refl;
        inside = omega arith;
        goes = λ start n ss. let e : n + 0 ≡ n = omega arith in rw e;
      }

  module _ (token : Answer (Answer ℕ)) (i : ℕ) (w : Walking t l token i) where
    -- the rest of the label as it is lent
    abbrev lent : List ℕ
    lent = take (length l - i) (drop i l)

    whole : lent ≡ drop i l
    whole = take_all (length l - i) (drop i l) (rw length-drop (omega arith))

    pub walking_left : i < length l → 1 ≤ length lent
    walking_left h = rw (whole, length-drop) (omega arith)

    -- the step s stands here
    record Here (s : Step) : Type 0 where
      next : steps t (drop i l) ≡ s ∷ steps t (drop (i + width s) l)
      low : 1 ≤ width s
      high : i + width s ≤ length l

    here : (s : Step) → i < length l → first_step t lent ≡ s → Here s
    unfolding first_step
    here s h e = go (drop i l) refl
      where
        go : (r : List ℕ) → drop i l ≡ r → Here s
        go [] q = absurd (omega (arith, sym (length-drop i l) ∙ ap length q))
        go (c ∷ r) q =
            let first : step_at t c r ≡ s = ap (first_step t) (sym (whole ∙ q)) ∙ e in
            let wide = step_wide t c r in
            let long : length l - i ≡ suc (length r) = sym (length-drop i l) ∙ ap length q in
            let low : 1 ≤ width s = rw (← first) wide.low in
            let high : width s ≤ suc (length r) = rw (← first) wide.high in
            let behind : drop (width s) (c ∷ r) ≡ drop (i + width s) l = rw (← q) (drop-drop (width s) i l) in
            let next : steps t (c ∷ r) ≡ s ∷ steps t (drop (width s) (c ∷ r)) = rw first at (steps_next t c r) in
            record { next = rw q (rw behind at next); low = low; high = omega arith }

    -- the token goes on with it
    step_on : (s : Step) (o' : Option Source) (token' : Answer (Answer ℕ)) (k : ℕ) → i < length l → first_step t lent ≡ s → width s ≡ k → token' ≡ token_by o'
        → ((start n : ℕ) (ss : List Step) → placed_from w.o start n (s ∷ ss) ≡ placed_from o' start (n + k) ss) → Walking t l token' (i + k)
    step_on s o' token' k h e wk so g =
        let x = here s h e in
        let one : (rs : List Step) → (w.own ++ s ∷ []) ++ rs ≡ w.own ++ s ∷ rs = λ rs. append_assoc w.own (s ∷ []) rs in
        record {
          o = o';
          own = w.own ++ s ∷ [];
          so_far = so;
          split = w.split ∙ ap (λ (rs : List Step). w.own ++ rs) x.next ∙ rw wk (sym (one (steps t (drop (i + k) l))));
          count = rw (widths_append w.own (s ∷ [])) (omega (arith, w.count, wk));
          inside = omega (arith, x.high, wk);
          goes = λ start n ss.
              let sum : n + (i + k) ≡ n + i + k = omega arith in
              rw (sum, one ss) (w.goes start n (s ∷ ss) ∙ g start (n + i) ss);
        }

    pub walking_nothing : i < length l → StandsIs (first_step t lent) Nothing → Walking t l token (i + 1)
    unfolding placed_from
    walking_nothing h g = go (first_step t lent) refl g
      where
        go : (s : Step) → first_step t lent ≡ s → Gives s → Walking t l token (i + 1)
        go s e ignored = step_on scan.ignored w.o token 1 h e refl w.so_far (λ start n ss. rw (add-one n))
        go s e disallowed = step_on scan.disallowed w.o token 1 h e refl w.so_far (λ start n ss. rw (add-one n))

    pub walking_taken : (m k : ℕ) → i < length l → StandsIs (first_step t lent) (Emoji m k) → (1 ≤ k) × (i + k ≤ length l)
    walking_taken m k h g =
        let x = here (scan.emoji g.found) h g.is in
        (omega (arith, x.low, g.taken), omega (arith, x.high, g.taken))

    pub walking_emoji : (m k : ℕ) → i < length l → token ≡ None → StandsIs (first_step t lent) (Emoji m k) → Walking t l (Some (Some m)) (i + k)
    unfolding placed_from
    walking_emoji m k h z g = go w.o refl w.so_far
      where
        go : (p : Option Source) → w.o ≡ p → token ≡ token_by p → Walking t l (Some (Some m)) (i + k)
        go none e so =
            step_on (scan.emoji g.found) (some (emoji g.found)) (Some (Some m)) k h g.is (sym g.taken) (rw g.number)
            (λ start n ss. rw (e, g.taken))
        go (some x) e so = absurd (let y : ◌≡◌ {A = ℕ} 0 1 = cc in omega arith)

    pub walking_text : i < length l → is_some (option_flatten token) ≡ false → StandsIs (first_step t lent) Text → Walking t l (Some None) (i + 1)
    unfolding placed_from
    walking_text h z g = go w.o refl w.so_far
      where
        go : (p : Option Source) → w.o ≡ p → token ≡ token_by p → Walking t l (Some None) (i + 1)
        go none e so =
            step_on (scan.text (g.first ∷ g.others)) (some (text (g.first ∷ g.others))) (Some None) 1 h g.is refl refl
            (λ start n ss. rw (e, add-one n))
        go (some (text r)) e so =
            step_on (scan.text (g.first ∷ g.others)) (some (text (r ++ g.first ∷ g.others))) (Some None) 1 h g.is refl refl
            (λ start n ss. rw (e, add-one n))
        go (some (emoji f)) e so = absurd (false≢true (sym (rw so at z)))

    -- the token ends here
    stops : (x : Source) → w.o ≡ some x
        → ((start n : ℕ) → placed_from (some x) start n (steps t (drop i l)) ≡ record { source = x; start = start; end = n } ∷ placed_from none n n (steps t (drop i l)))
        → (1 ≤ length (steps t (drop i l)) → 1 ≤ length (tokens_of (steps t (drop i l))))
        → TokenEnds t l (record { emoji = record_of x; end = i })
    unfolding placed_from
    stops x e opens more =
        let f : FirstOf none (steps t l) =
        record {
          source = x;
          own = w.own;
          rest = steps t (drop i l);
          parts = w.split;
          alone = λ start n. ap (placed_from none start n) (sym (append-nil w.own)) ∙ w.goes start n [] ∙ rw (e, w.count);
          first = λ start n. ap (placed_from none start n) w.split ∙ w.goes start n (steps t (drop i l)) ∙ rw e (opens start (n + i) ∙ rw w.count);
          more = more;
        } in
        record { source = x; is = rw w.count (is_first t l f); emoji = refl }

    pub ends_emoji : (m k : ℕ) → i < length l → (a : Answer ℕ) → token ≡ Some a → StandsIs (first_step t lent) (Emoji m k)
        → TokenEnds t l (record { emoji = a; end = i })
    unfolding placed_from tokens_of
    ends_emoji m k h a z g = go w.o refl w.so_far
      where
        next : steps t (drop i l) ≡ scan.emoji g.found ∷ steps t (drop (i + width (scan.emoji g.found)) l)
        next = (here (scan.emoji g.found) h g.is).next

        go : (p : Option Source) → w.o ≡ p → token ≡ token_by p → TokenEnds t l (record { emoji = a; end = i })
        go none e so = absurd (let y : ◌≡◌ {A = ℕ} 0 1 = cc in omega arith)
        go (some x) e so =
            let same : record_of x ≡ a = cc in
            rw same at (stops x e (λ start n. rw next) (λ u. rw next (omega arith)))

    pub ends_text : i < length l → is_some (option_flatten token) ≡ true → StandsIs (first_step t lent) Text
        → TokenEnds t l (record { emoji = option_flatten token; end = i })
    unfolding placed_from tokens_of
    ends_text h z g = go w.o refl w.so_far
      where
        next : steps t (drop i l) ≡ scan.text (g.first ∷ g.others) ∷ steps t (drop (i + 1) l)
        next = (here (scan.text (g.first ∷ g.others)) h g.is).next

        go : (p : Option Source) → w.o ≡ p → token ≡ token_by p → TokenEnds t l (record { emoji = option_flatten token; end = i })
        go none e so = absurd (false≢true (rw so at z))
        go (some (text r)) e so = absurd (false≢true (rw so at z))
        go (some (emoji f)) e so =
            rw so (stops (emoji f) e (λ start n. rw next) (λ u. rw next (some-before g.first g.others (tokens_of (steps t (drop (i + 1) l))))))

    pub ends_label : length l ≤ i → 1 ≤ length (tokens_of (steps t l)) → TokenEnds t l (record { emoji = option_flatten token; end = i })
    unfolding placed_from steps
    ends_label h some_tokens = go w.o refl w.so_far
      where
        next : steps t (drop i l) ≡ []
        next = ap (steps t) (drop_of_length-le l h)

        go : (p : Option Source) → w.o ≡ p → token ≡ token_by p → TokenEnds t l (record { emoji = option_flatten token; end = i })
        go none e so =
            let empty : placed_from none 0 0 (steps t l) ≡ [] = ap (placed_from none 0 0) w.split ∙ w.goes 0 0 (steps t (drop i l)) ∙ rw (e, next) in
            let gone : tokens_of (steps t l) ≡ [] = sym (bare_from none 0 0 (steps t l) tt) ∙ ap (map bare) empty in
            absurd (omega (arith, some_tokens, ap length gone))
        go (some x) e so = rw so (stops x e (λ start n. rw next) (λ u. absurd (omega (arith, u, ap length next))))

-- what stands here, once it is known which it is
pub as_emoji : (s : Step) (r : Stands) (m k : ℕ) → r ≡ Emoji m k → StandsIs s r → StandsIs s (Emoji m k)
as_emoji s r m k e g = rw e at g

pub as_text : (s : Step) (r : Stands) → r ≡ Text → StandsIs s r → StandsIs s Text
as_text s r e g = rw e at g

pub as_nothing : (s : Step) (r : Stands) → r ≡ Nothing → StandsIs s r → StandsIs s Nothing
as_nothing s r e g = rw e at g
