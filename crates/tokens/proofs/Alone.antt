-- The step at one codepoint, by the answers of the lookups.
use Prim.Native.Nat.{ℕ}
use native.Mathlib.Omega.{arith}
use mathlib.Core.Path.{◌≡◌, refl, sym, ◌∙◌}
use mathlib.Core.Bool.{Bool, true, false, cond}
use mathlib.Core.List.{List}
use mathlib.Core.Option.{Option, none, some}
use Rattle.table.specs.declared.Span.{Span}
use Rattle.std.specs.declared.option.Option as rust
use Rattle.std.specs.declared.option.Option.TheVariants.{Some, None}
use Rattle.table.specs.Layout.{most_items, the_table}
use Rattle.table.specs.Lookup.{in_ranges, items_of}
use Rattle.table.specs.Part.{ItemsFound}
use Rattle.tokens.specs.declared.single.Single.TheVariants.{Valid, Mapped, Ignored, Disallowed}
use Rattle.tokens.specs.Scan.{ignored, codepoint_step}
use Rattle.tokens.specs.Single.{SingleFound}

module _ (ws : List ℕ) (v : Bool) (o : Option (List ℕ)) where
  pub unless-valid : v ≡ true → ItemsFound ws most_items (cond v none o) None
  unless-valid e = rw e (record { same = refl; fit = tt; filled = tt })

  pub unless_other : v ≡ false → (i : rust.Option Span) → ItemsFound ws most_items o i → ItemsFound ws most_items (cond v none o) i
  unless_other e i r = rw e r

module _ (ws : List ℕ) (c : ℕ) where
  abbrev Asked : Bool → rust.Option Span → Type 0
  Asked v i = ItemsFound ws most_items (cond v none (items_of (the_table ws).mapped c)) i

  -- a codepoint that has items is not valid
  mapped_step : (v : Bool) → v ≡ in_ranges c (the_table ws).valid → (s : Span) → Asked v (Some s)
      → SingleFound ws c (codepoint_step (the_table ws) c) (Mapped s)
  unfolding codepoint_step
  mapped_step true p s q = absurd (let z : ◌≡◌ {A = ℕ} 0 1 = cc q.same in omega arith)
  mapped_step false p s q = record { same = rw (← p, ← q.same); fits = record { filled = q.filled; inside = q.fit.1; short = q.fit.2 } }

  module _ (v : Bool) (p : v ≡ in_ranges c (the_table ws).valid) (i : rust.Option Span) (r : Asked v i) where
    pub alone_valid : v ≡ true → SingleFound ws c (codepoint_step (the_table ws) c) Valid
    unfolding codepoint_step
    alone_valid e = record { same = rw (← (sym e ∙ p)); fits = tt }

    pub alone_mapped : (s : Span) → i ≡ Some s → SingleFound ws c (codepoint_step (the_table ws) c) (Mapped s)
    alone_mapped s e = mapped_step v p s (rw e at r)

    module _ (e : i ≡ None) (n : v ≡ false) where
      nothing-found : ItemsFound ws most_items (items_of (the_table ws).mapped c) None
      nothing-found =
          let q : Asked v None = rw e at r in
          rw n at q

      pub alone_ignored : true ≡ in_ranges c (the_table ws).ignored → SingleFound ws c (codepoint_step (the_table ws) c) Ignored
      unfolding codepoint_step
      alone_ignored o = record { same = rw (← (sym n ∙ p), ← nothing-found.same, ← o); fits = tt }

      pub alone_disallowed : false ≡ in_ranges c (the_table ws).ignored → SingleFound ws c (codepoint_step (the_table ws) c) Disallowed
      unfolding codepoint_step
      alone_disallowed o = record { same = rw (← (sym n ∙ p), ← nothing-found.same, ← o); fits = tt }
