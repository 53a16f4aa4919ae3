-- What stands at one place of a label.
use Prim.Native.Nat.{ℕ, ◌-◌, ◌≤◌}
use native.Mathlib.Omega.{arith}
use mathlib.Core.Path.{◌≡◌, refl, sym, ap, ◌∙◌, subst}
use mathlib.Core.List.{List, [], ◌∷◌}
use mathlib.Core.Option.{none, some}
use lib.ListN.{length, get_or, drop, length-drop}
use lib.Seq.{length-take-le}
use Rattle.table.specs.declared.Span.{Span}
use Rattle.table.specs.Table.{Table}
use Rattle.table.specs.Spans.{within}
use Rattle.tokens.specs.declared.single.Single.{Single}
use Rattle.tokens.specs.declared.single.Single.TheVariants as single
use Rattle.finder.specs.declared.emoji.Match.{Match}
use Rattle.std.specs.Prelude.{Option as Answer, Some, None}
use Rattle.finder.specs.Emoji.{Found, strip, find}
use Rattle.finder.specs.Match.{FoundBy}
use Rattle.tokens.specs.Single.{ItemsThere, SingleFound}
use Rattle.tokens.specs.Scan as scan
use Rattle.tokens.specs.Scan.{Step, codepoint_step, step_at}
use Rattle.scanning.specs.Scanning.{first_step}
use Rattle.token_extent.specs.declared.Stands.{Stands}
use Rattle.token_extent.specs.declared.Stands.TheVariants.{Emoji, Text, Nothing}
use Rattle.token_extent.specs.Ends.{TextStands, Gives, ignored, disallowed, StandsIs}

module _ (ws : List ℕ) (c : ℕ) (s : Step) (x : Single) (f : SingleFound ws c s x) where
  pub look_valid : x ≡ single.Valid → StandsIs s Text
  look_valid e = record { first = c; others = []; is = let q : scan.text (c ∷ []) ≡ s = rw e at f.same in sym q }

  -- the items of a mapping are not empty
  pub look_mapped : (i : Span) → x ≡ single.Mapped i → StandsIs s Text
  look_mapped i e = go (within i ws) refl
    where
      there : ItemsThere ws i
      there = let g : SingleFound ws c s (single.Mapped i) = rw e at f in g.fits

      long : length (within i ws) ≡ i.to - i.from
      long = length-take-le (i.to - i.from) (drop i.from ws) (rw length-drop (omega (arith, there.filled, there.inside)))

      go : (l : List ℕ) → within i ws ≡ l → TextStands s
      go [] q = absurd (omega (arith, there.filled, long, ap length q))
      go (y ∷ l) q = record { first = y; others = l; is = let p : scan.text (within i ws) ≡ s = rw e at f.same in sym p ∙ ap scan.text q }

  pub look_ignored : x ≡ single.Ignored → StandsIs s Nothing
  look_ignored e = let q : scan.ignored ≡ s = rw e at f.same in subst Gives q ignored

  pub look_disallowed : x ≡ single.Disallowed → StandsIs s Nothing
  look_disallowed e = let q : scan.disallowed ≡ s = rw e at f.same in subst Gives q disallowed

module _ (t : Table) (ws : List ℕ) where
  first_found : (rest : List ℕ) (f : Found) → 1 ≤ length rest → find t.emoji rest ≡ some f → first_step t rest ≡ scan.emoji f
  unfolding first_step step_at
  first_found [] f h e = absurd (omega arith)
  first_found (c ∷ rest) f h e = rw e

  first_alone : (rest : List ℕ) → 1 ≤ length rest → find t.emoji rest ≡ none → first_step t rest ≡ codepoint_step t (get_or rest 0 0)
  unfolding first_step step_at
  first_alone [] h e = absurd (omega arith)
  first_alone (c ∷ rest) h e = rw e

  module _ (rest : List ℕ) (m : Answer Match) (h : 1 ≤ length rest) (d : FoundBy ws rest (find t.emoji rest) m) where
    pub look_emoji : (u : Match) → m ≡ Some u → StandsIs (first_step t rest) (Emoji u.number u.taken)
    look_emoji u e =
        let f : Found = record { number = u.number; taken = record { length = u.taken; selectors = u.selectors }; stripped = strip (within u.sequence ws) } in
        let is : some f ≡ find t.emoji rest = rw e at d.same in
        record { found = f; is = first_found rest f h (sym is); number = refl; taken = refl }

    pub look_codepoint : m ≡ None → (r : Stands) → StandsIs (codepoint_step t (get_or rest 0 0)) r → StandsIs (first_step t rest) r
    look_codepoint e r s = rw (first_alone rest h (sym (rw e at d.same))) s
