-- Demand 2, last sentence: "A label that reaches the look-alike test is refused there exactly when it has confused characters and some
-- group could spell it with each of them swapped for a look-alike outside its extent."
use Rattle.std.specs.Prelude.{ℕ, ◌≡◌, refl, Bool, true, false, not, ◌&&◌, ◌↔◌}
use Rattle.std.proofs.Common.{arith, sym, ◌∙◌, true≢false}
use mathlib.Core.List.{List, Memᴰ}
use Rattle.std.proofs.Math.Option.{Option, none, some, none-ne-some, some-injective}
use Rattle.std.proofs.lemmas.Bool.{not-true}
use Rattle.lists.specs.Lists.{all, any, mem, on_some}
use Rattle.lists.specs.Laws.{both, both_left, both_right, keep_member, mem_of, member_of}
use Rattle.lists.specs.Members.{any_passing, passing_any, all-at, all_of, keep_keeps}
use Rattle.answers.specs.Verdict.{Verdict, accepted, refused}
use Rattle.answers.specs.declared.Kind.{Kind}
use Rattle.answers.specs.declared.Kind.TheVariants.{Group}
use Rattle.table.specs.Table as table
use Rattle.table.specs.Table.{Table, Whole}
use Rattle.table.specs.Lookup.{holds, whole_of}
use Rattle.groups.specs.Groups.{Numbered}
use Rattle.nsm.specs.Marks.{nsm_fits}
use Rattle.compounds.specs.Compounds.{compounds_fit}
use Rattle.confusable.specs.Confusable.{is_confused, members, extent, outside, respells, confusable}
use Rattle.label.specs.Judge.{judge_in_group, unless}

-- a look-alike of c in g: a member of its whole outside its extent that the group holds
pub record Lookalike (t : Table) (g : table.Group) (w : Whole) (c : ℕ) : Type 0 where
  pub other : ℕ
  pub member : Memᴰ other (members w)
  pub outside-extent : Memᴰ other (extent t w c) → ⊥
  pub held : holds g other ≡ true

-- the group can spell c: by a look-alike where c is confused, by c itself otherwise
pub record Spells (t : Table) (g : table.Group) (c : ℕ) : Type 0 where
  pub swapped : (w : Whole) → whole_of t.wholes c ≡ some w → Lookalike t g w c
  pub kept : whole_of t.wholes c ≡ none → holds g c ≡ true

-- the text has a confused character, and a group of the table spells every character of it so
pub record Respelled (t : Table) (s : List ℕ) : Type 0 where
  pub confused : ℕ
  pub in_text : Memᴰ confused s
  pub is_confused_lem : is_confused t confused ≡ true
  pub group : table.Group
  pub in_table : Memᴰ group t.groups
  pub spells : (c : ℕ) → Memᴰ c s → Spells t group c

nothing : {w : Whole} → ◌≡◌ {A = Option Whole} none (some w) → ⊥
nothing {w} e = none-ne-some w e

lookalike : (t : Table) (g : table.Group) (w : Whole) (c : ℕ) → any (holds g) (outside t w c) ≡ true → Lookalike t g w c
unfolding outside
lookalike t g w c e =
    let p = any_passing (holds g) (outside t w c) e in
    let k = keep_member (λ m. not (mem m (extent t w c))) (members w) p.element p.member in
    record {
      other = p.element;
      member = k.0;
      outside-extent = λ m. true≢false (sym (mem_of p.element (extent t w c) m) ∙ not-true (mem p.element (extent t w c)) k.1);
      held = p.passes;
    }

lookalike_held : (t : Table) (g : table.Group) (w : Whole) (c : ℕ) → Lookalike t g w c → any (holds g) (outside t w c) ≡ true
unfolding outside
lookalike_held t g w c l =
    passing_any (holds g) (keep_keeps (λ m. not (mem m (extent t w c))) l.member (go (mem l.other (extent t w c)) refl)) l.held
  where
    go : (b : Bool) → mem l.other (extent t w c) ≡ b → not b ≡ true
    go true e = absurd (l.outside-extent (member_of l.other (extent t w c) e))
    go false e = refl

respells_spells : (t : Table) (g : table.Group) (c : ℕ) → respells t g c ≡ true → Spells t g c
unfolding respells
respells_spells t g c = go (whole_of t.wholes c) refl
  where
    go : (o : Option Whole) → whole_of t.wholes c ≡ o → on_some o (λ w. any (holds g) (outside t w c)) (holds g c) ≡ true → Spells t g c
    go none eo e = record { swapped = λ w f. absurd (nothing (sym eo ∙ f)); kept = λ f. e }
    go (some w) eo e = record { swapped = λ v f. lookalike t g v c (rw (← some-injective w v (sym eo ∙ f)) e); kept = λ f. absurd (nothing (sym f ∙ eo)) }

spells_respells : (t : Table) (g : table.Group) (c : ℕ) → Spells t g c → respells t g c ≡ true
unfolding respells
spells_respells t g c s = go (whole_of t.wholes c) refl
  where
    go : (o : Option Whole) → whole_of t.wholes c ≡ o → on_some o (λ w. any (holds g) (outside t w c)) (holds g c) ≡ true
    go none eo = s.kept eo
    go (some w) eo = lookalike_held t g w c (s.swapped w eo)

-- `confusable` is that, in plain words
pub confusable_respelled : (t : Table) (s : List ℕ) → (confusable t s ≡ true) ↔ Respelled t s
unfolding confusable
confusable_respelled t s = (there, back)
  where
    there : any (is_confused t) s && any (λ g. all (respells t g) s) t.groups ≡ true → Respelled t s
    there e =
        let p = any_passing (is_confused t) s (both_left (any (is_confused t) s) (any (λ g. all (respells t g) s) t.groups) e) in
        let q = any_passing (λ g. all (respells t g) s) t.groups (both_right (any (is_confused t) s) (any (λ g. all (respells t g) s) t.groups) e) in
        record {
          confused = p.element;
          in_text = p.member;
          is_confused_lem = p.passes;
          group = q.element;
          in_table = q.member;
          spells = λ c m. respells_spells t q.element c (all-at (respells t q.element) m q.passes);
        }

    back : Respelled t s → any (is_confused t) s && any (λ g. all (respells t g) s) t.groups ≡ true
    back r =
        both (any (is_confused t) s) (any (λ g. all (respells t g) s) t.groups) (passing_any (is_confused t) r.in_text r.is_confused_lem)
        (passing_any (λ g. all (respells t g) s) r.in_table (all_of (respells t r.group) s (λ c m. spells_respells t r.group c (r.spells c m))))

-- A label that reaches the test, its group permitting its compound sequences and being whitelisted or its NSM in order, is refused as 14 exactly then.
pub refused_14 : (t : Table) (place : ℕ) (s : List ℕ) (g : Numbered) → not (compounds_fit t g.group.sequences s) ≡ false
    → not g.group.whitelisted && not (nsm_fits t s) ≡ false → (judge_in_group t place s g ≡ refused 14 place) ↔ Respelled t s
unfolding judge_in_group
refused_14 t place s g lists reaches = (λ e. there (confusable t s) refl (rw (lists, reaches) at e), λ r. rw (lists, reaches, (confusable_respelled t s).1 r))
  where
    kind : Verdict Kind
    kind = accepted (Group (record { number = g.number; restricted = g.group.restricted }))

    there : (b : Bool) → confusable t s ≡ b → unless b 14 place kind ≡ refused 14 place → Respelled t s
    there true e f = (confusable_respelled t s).0 e
    there false e f = absurd (let z : ◌≡◌ {A = ℕ} 0 1 = cc in omega arith)
