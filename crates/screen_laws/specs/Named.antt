-- The emoji of a label are records of the table: the one that the finder named. On every table.
use Prim.Native.Nat.{ℕ, zero, suc, ◌+◌, ◌≤◌}
use Rattle.std.proofs.Common.{arith}
use Rattle.std.specs.Prelude.{◌≡◌, Bool, cond, length, get_or}
use Rattle.std.proofs.Math.Path.{refl}
use Rattle.std.proofs.Math.Bool.{true, false}
use mathlib.Core.List.{List, [], ◌∷◌, ◌++◌}
use mathlib.Core.List.{Memᴰ}
use Rattle.std.proofs.Math.Option.{Option, none, some}
use Rattle.lists.specs.Lists.{on_some}
use Rattle.lists.specs.Laws.{Every}
use Rattle.lists.specs.Elements.{get_or_member, every_map}
use Rattle.table.specs.Table.{Table}
use Rattle.table.specs.Lookup.{in_ranges, items_of}
use Rattle.finder.specs.Emoji.{strip, Found, find}
use Rattle.finder.specs.Finding.{find_best}
use Rattle.tokens.specs.Scan as scan
use Rattle.tokens.specs.Scan.{Step, codepoint_step, step_at, steps_from, steps}
use Rattle.places.specs.Places.{Source, emoji, text, Placed, placed_from, placed}
use Rattle.idempotence.specs.Formed.{takes_item}
use Rattle.forms.specs.Forms.{sources_of}

-- the record of that number is the table's, it has items, and stripped it is the token
pub record Named (t : Table) (f : Found) : Type 0 where
  pub listed : Memᴰ (get_or t.emoji f.number []) t.emoji
  pub some_item : 1 ≤ length (get_or t.emoji f.number [])
  pub stripped : f.stripped ≡ strip (get_or t.emoji f.number [])

found_named : (t : Table) (inp : List ℕ) (f : Found) → find t.emoji inp ≡ some f → Named t f
found_named t inp f e =
    let b = find_best t.emoji inp f e in
    let here : b.place ≡ f.number = omega (arith, b.number) in
    record {
      listed = rw (← here) (get_or_member t.emoji b.place [] b.inside);
      some_item = rw (← here) (takes_item (get_or t.emoji b.place []) inp f.taken b.taken b.some-taken);
      stripped = rw (← here) b.stripped;
    }

-- what a step and a token of a label say
abbrev StepNamed : Table → Step → Type 0
StepNamed t (scan.emoji f) = Named t f
StepNamed t (scan.text s) = Unit {0}
StepNamed t scan.ignored = Unit {0}
StepNamed t scan.disallowed = Unit {0}

abbrev pub SourceNamed : Table → Source → Type 0
SourceNamed t (emoji f) = Named t f
SourceNamed t (text s) = Unit {0}

module _ (t : Table) where
  codepoint_named : (c : ℕ) → StepNamed t (codepoint_step t c)
  unfolding codepoint_step
  codepoint_named c = go (in_ranges c t.valid) (items_of t.mapped c) (in_ranges c t.ignored)
    where
      go : (b : Bool) (o : Option (List ℕ)) (i : Bool)
          → StepNamed t (cond b (scan.text (c ∷ [])) (on_some o scan.text (cond i scan.ignored scan.disallowed)))
      go true o i = tt
      go false (some s) i = tt
      go false none true = tt
      go false none false = tt

  step_named : (c : ℕ) (r : List ℕ) → StepNamed t (step_at t c r)
  unfolding step_at
  step_named c r = go (find t.emoji (c ∷ r)) refl
    where
      go : (o : Option Found) → find t.emoji (c ∷ r) ≡ o → StepNamed t (on_some o scan.emoji (codepoint_step t c))
      go (some f) e = found_named t (c ∷ r) f e
      go none e = codepoint_named c

  steps_named : (n : ℕ) (l : List ℕ) → Every (StepNamed t) (steps_from t n l)
  unfolding steps_from
  steps_named n [] = tt
  steps_named zero (c ∷ r) = (step_named c r, steps_named _ r)
  steps_named (suc n) (c ∷ r) = steps_named n r

  abbrev SoFar : Option Source → Type 0
  SoFar none = Unit {0}
  SoFar (some x) = SourceNamed t x

  abbrev Each : List Placed → Type 0
  Each xs = Every (λ (x : Placed). SourceNamed t x.source) xs

  placed_named : (o : Option Source) (s a : ℕ) (ss : List Step) → SoFar o → Every (StepNamed t) ss → Each (placed_from o s a ss)
  unfolding placed_from
  placed_named none s a [] p h = tt
  placed_named (some x) s a [] p h = (p, tt)
  placed_named none s a (scan.ignored ∷ ss) p h = placed_named none s (suc a) ss p h.1
  placed_named (some x) s a (scan.ignored ∷ ss) p h = placed_named (some x) s (suc a) ss p h.1
  placed_named none s a (scan.disallowed ∷ ss) p h = placed_named none s (suc a) ss p h.1
  placed_named (some x) s a (scan.disallowed ∷ ss) p h = placed_named (some x) s (suc a) ss p h.1
  placed_named none s a (scan.text [] ∷ ss) p h = placed_named none s (suc a) ss p h.1
  placed_named (some x) s a (scan.text [] ∷ ss) p h = placed_named (some x) s (suc a) ss p h.1
  placed_named none s a (scan.emoji f ∷ ss) p h = placed_named (some (emoji f)) s (a + f.taken.length) ss h.0 h.1
  placed_named (some x) s a (scan.emoji f ∷ ss) p h = (p, placed_named (some (emoji f)) a (a + f.taken.length) ss h.0 h.1)
  placed_named none s a (scan.text (c ∷ r) ∷ ss) p h = placed_named (some (text (c ∷ r))) s (suc a) ss tt h.1
  placed_named (some (text q)) s a (scan.text (c ∷ r) ∷ ss) p h = placed_named (some (text (q ++ c ∷ r))) s (suc a) ss tt h.1
  placed_named (some (emoji f)) s a (scan.text (c ∷ r) ∷ ss) p h = (p, placed_named (some (text (c ∷ r))) a (suc a) ss tt h.1)

  -- every emoji of a label
  pub sources_named : (l : List ℕ) → Every (SourceNamed t) (sources_of t l)
  unfolding sources_of placed steps
  sources_named l =
      every_map (SourceNamed t) (λ (x : Placed). x.source) (placed t 0 l) (placed_named none 0 0 (steps t l) tt (steps_named 0 l))
