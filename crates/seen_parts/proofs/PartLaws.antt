-- What is seen of one section, by what the walk over it answers.
use Prim.Native.Nat.{ℕ, ◌-◌, ◌≤◌, ◌<◌}
use native.Mathlib.Omega.{arith}
use mathlib.Core.Path.{◌≡◌, refl, sym, ◌∙◌}
use mathlib.Core.Bool.{Bool, true, false, not}
use mathlib.Core.List.{List}
use mathlib.Core.Option.{Option, none, some}
use lib.ListN.{length}
use lib.Dec.{ltb}
use borrow.Author.Tests.{ltb-true, ltb-false}
use Rattle.lists.specs.Lists.{is_some}
use Rattle.table.specs.declared.Span.{Span}
use Rattle.table.specs.Layout.{most_items, headed, excluded}
use Rattle.table.specs.Spans.{within}
use Rattle.table.proofs.Lookups.{false_true}
use Rattle.table.proofs.Searches.{headed_wider}
use Rattle.apart.specs.Order.{is_fault, is_sorted}
use Rattle.heads.specs.declared.HeadsOrder.{HeadsOrder}
use Rattle.heads.specs.Heads.{HeadsFound}
use Rattle.firsts.specs.declared.FirstsOrder.{FirstsOrder}
use Rattle.firsts.specs.Firsts.{FirstsFound}
use Rattle.group_sizes.specs.declared.Seen.{Seen}
use Rattle.seen_parts.specs.SeesParts.{SeesHeads, SeesFirsts}
use Rattle.whole_sizes.proofs.WalkLaws.{excluded-none}
use Rattle.group_sizes.proofs.ApartLaws.{sees_order}

pub sees_heads : (part : List ℕ) (most : ℕ) (h : HeadsOrder) (r : Seen) → most ≤ most_items → HeadsFound part most h
    → (r.fits ≡ not (is_fault h.order)) × (r.sorted ≡ is_sorted h.order) → SeesHeads part most (record { fits = r.fits; sorted = r.sorted; marks = h.marks })
sees_heads part most h r i w q =
    let s = sees_order _ _ h.order r w.order q in
    record {
      fits = s.fits;
      known = λ e. let p = sym s.fits ∙ e in record { parses = wider (headed (length part) most part) refl p; marks = w.marks p; rise = s.sorted };
      found = λ e a. s.found (sym s.fits ∙ e) a;
    }
  where
    wider : (o : Option _) → headed (length part) most part ≡ o → is_some o ≡ true → is_some (headed (length part) most_items part) ≡ true
    wider none e p = let z : ◌≡◌ {A = ℕ} 0 1 = cc in absurd (omega arith)
    wider (some xs) e p = rw (headed_wider (length part) most most_items part xs i e)

pub sees_firsts : (part : List ℕ) (f : FirstsOrder) (r : Seen) → FirstsFound part f → (r.fits ≡ not (is_fault f.order)) × (r.sorted ≡ is_sorted f.order)
    → SeesFirsts part (record { fits = r.fits; sorted = r.sorted; places = f.places; numbers = f.numbers })
sees_firsts part f r w q =
    let s = sees_order _ _ f.order r w.order q in
    record {
      fits = s.fits;
      known = λ e. let p = sym s.fits ∙ e in record { parses = p; marks = w.marks p; firsts = s.sorted };
      found = λ e a. s.found (sym s.fits ∙ e) a;
    }

-- the words that are a single record are not none
pub excluded_left : (ws : List ℕ) (s : Span) → true ≡ is_some (excluded (within s ws)) → s.from < s.to
excluded_left ws s e = go (ltb s.from s.to) refl
  where
    go : (b : Bool) → ltb s.from s.to ≡ b → s.from < s.to
    go true q = ltb-true _ _ q
    go false q =
        let n : s.to - s.from ≡ 0 = omega (arith, ltb-false s.from s.to q) in
        absurd (false_true (excluded-none (within s ws) (rw n) ∙ sym e))
