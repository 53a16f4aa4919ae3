-- The screen form of a label, token by token.
use Prim.Native.Nat.{ℕ, ◌+◌, ◌-◌, ◌*◌, ◌≤◌, ◌<◌}
use native.Mathlib.Omega.{arith}
use mathlib.Core.Path.{◌≡◌, refl, sym, ap, ◌∙◌}
use mathlib.Core.Bool.{Bool, true}
use mathlib.Core.List.{List, [], ◌∷◌, ◌++◌, append_assoc, append-nil}
use lib.ListN.{length, take, drop, length-append, length-drop, drop_of_length-le}
use lib.Seq.{take_all, drop-drop}
use Rattle.lists.specs.Lists.{joined_map}
use Rattle.limits.specs.Limits.{most_worked}
use Rattle.table.specs.Table.{Table}
use Rattle.tokens.specs.Tokens.{normal_token, codepoints}
use Rattle.places.specs.Places.{Source, emoji, text, token_of}
use Rattle.places.specs.Parts.{IsFirst}
use Rattle.token_walk.specs.declared.Walked.{Walked}
use Rattle.token_extent.specs.Ends.{record_of}
use Rattle.token_walk.specs.Walk.{Walkable, Walks}
use Rattle.token_walk.proofs.Nexting.{walkable_next}
use Rattle.name.specs.Parts.{between, Put}
use Rattle.forms.specs.Forms.{screen_token}
use Rattle.forms.specs.Laws.{sources-first, sources-none}
use Rattle.screen_token.specs.Shows.{token_words, ShowsToken}
use Rattle.screen_label.specs.Showing.{screen_label, ShowsLabel}

-- what is put behind what was put
pub put_then : {a b c : List ℕ} {at m e : ℕ} {f : Bool} (s r : List ℕ) → Put a b at f s m → Put b c m true r e → Put a c at f (s ++ r) e
put_then {a = a} {b = b} {c = c} {at = at} {m = m} {e = e} {f = f} s r p q =
    let whole : between f ++ (s ++ r) ≡ (between f ++ s) ++ r = sym (append_assoc (between f) s r) in
    record {
      same = q.same ∙ p.same;
      ends = rw (whole, length-append) (omega (arith, p.ends, q.ends));
      written = λ h.
          q.written (omega (arith, p.same))
          ∙ ap (λ (x : List ℕ). x ++ r) (p.written (omega (arith, q.ends)))
          ∙ append_assoc (take at a) (between f ++ s) r
          ∙ ap (λ (x : List ℕ). take at a ++ x) (sym whole);
    }

-- what is written for the token of the walk is its screen form
walked-words : (t : Table) (greek : Bool) (rest w w' : List ℕ) (x : Walked) (k : Walks t rest w w' x) → token_words t greek x w' ≡ screen_token t greek k.source
unfolding normal_token screen_token
walked-words t greek rest w w' x k = go k.source k.emoji k.words
  where
    go : (y : Source) → x.extent.emoji ≡ record_of y → take x.length w' ≡ codepoints (normal_token t (token_of y))
        → token_words t greek x w' ≡ screen_token t greek y
    go (emoji f) e v = rw e
    go (text s) e v = rw (e, v)

label-none : (t : Table) (greek : Bool) → screen_label t greek [] ≡ []
unfolding screen_label
label-none t greek = ap (joined_map (screen_token t greek)) (sources-none t)

label-first : (t : Table) (greek : Bool) (l : List ℕ) (x : Source) (n : ℕ) → IsFirst t l x n
    → screen_label t greek l ≡ screen_token t greek x ++ screen_label t greek (drop n l)
unfolding screen_label
label-first t greek l x n f = ap (joined_map (screen_token t greek)) (sources-first t l x n f)

-- the tokens before the place i of a label are written
pub record Showing (t : Table) (greek : Bool) (label before now : List ℕ) (at end i : ℕ) : Type 0 where
  pub inside : i ≤ length label
  pub done : List ℕ
  pub put : Put before now at true done end
  pub near : end ≤ at + most_worked * i
  pub left : screen_label t greek label ≡ done ++ screen_label t greek (drop i label)
  pub more : i < length label → Walkable t (drop i label)

module _ (t : Table) (greek : Bool) (label before : List ℕ) (at : ℕ) where
  pub showing_start : Walkable t label → Showing t greek label before before at at 0
  showing_start g =
      record {
        inside = omega arith;
        done = [];
        put = record { same = refl; ends = omega arith; written = λ h. sym (append-nil (take at before)) };
        near = omega arith;
        left = refl;
        more = λ h. g;
      }

  module _ (now : List ℕ) (end i : ℕ) (p : Showing t greek label before now at end i) where
    -- the rest of the label as it is lent
    abbrev lent : List ℕ
    lent = take (length label - i) (drop i label)

    whole : lent ≡ drop i label
    whole = take_all (length label - i) (drop i label) (rw length-drop (omega arith))

    pub showing_walks : i < length label → Walkable t lent
    showing_walks h = rw whole (p.more h)

    pub showing_short : (m : ℕ) → length label ≤ m → length lent ≤ m
    showing_short m h = rw (whole, length-drop) (omega arith)

    module _ (h : i < length label) (w w' : List ℕ) (x : Walked) (k : Walks t lent w w' x) where
      first : IsFirst t (drop i label) k.source x.extent.end
      first = rw whole at k.is

      pub showing_place : (1 ≤ x.extent.end) × (i + x.extent.end ≤ length label)
      showing_place = (first.some-taken, omega (arith, first.inside, length-drop i label))

      pub showing_more : (after : List ℕ) (e : ℕ) → ShowsToken t greek x w' now after end e → Showing t greek label before after at e (i + x.extent.end)
      showing_more after e q =
          let n : ℕ = x.extent.end in
          let one : token_words t greek x w' ≡ screen_token t greek k.source = walked-words t greek lent w w' x k in
          let token : Put now after end true (screen_token t greek k.source) e = rw one at q.put in
          let behind : drop n (drop i label) ≡ drop (i + n) label = drop-drop n i label in
          let split : screen_label t greek (drop i label) ≡ screen_token t greek k.source ++ screen_label t greek (drop (i + n) label) =
          label-first t greek (drop i label) k.source n first ∙ rw behind in
          record {
            inside = showing_place.1;
            done = p.done ++ screen_token t greek k.source;
            put = put_then p.done (screen_token t greek k.source) p.put token;
            near = omega (arith, p.near, q.near, showing_place.0);
            left = p.left ∙ rw split (sym (append_assoc p.done (screen_token t greek k.source) (screen_label t greek (drop (i + n) label))));
            more = λ g.
                rw behind at
                (walkable_next t (drop i label) (p.more h) k.source n first (omega (arith, length-drop i label)));
          }

    pub showing_end : length label ≤ i → ShowsLabel t greek label before now at end
    showing_end h =
        let none : screen_label t greek (drop i label) ≡ [] = rw (drop_of_length-le label h) (label-none t greek) in
        let e : i ≡ length label = omega (arith, p.inside) in
        record { put = rw (p.left, none, append-nil) p.put; near = rw (← e) p.near }
