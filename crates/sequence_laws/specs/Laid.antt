-- 02, Item 12: the list of a group of any table: "flag 4, allowed only beside flag 2, says that the group's record ends .. in such a list: a count of
-- 0 to 64, then records (count 2 to 8, items)". So 13 is not asked of a group with a list, and "a run of over 7 marks is never listed".
use Rattle.std.specs.Prelude.{ℕ, zero, suc, ◌≤◌, ◌<◌, ◌≡◌, refl, Bool, true, false, not, ◌&&◌, ◌||◌, length, get_or, take, drop, leb}
use Rattle.std.proofs.Common.{arith, sym, ap, ◌∙◌, length-take-le, leb-true}
use Rattle.std.proofs.lemmas.Bool.{false≢true}
use mathlib.Core.List.{List, [], ◌∷◌, Memᴰ}
use Rattle.std.proofs.Math.Option
use Rattle.std.proofs.Math.Option.{Option, none, some, none-ne-some, some-injective, map}
use Rattle.lists.specs.Lists.{all, on_some, and_then, same_list}
use Rattle.lists.specs.Laws.{both_left, both_right, then_some, same-list}
use Rattle.lists.specs.Members.{any_passing, all-at}
use Rattle.answers.specs.Verdict.{refused}
use Rattle.table.specs.Table.{Range, Group, Table}
use Rattle.table.specs.Layout.{
  most_items,
  most_parts,
  most_groups,
  most_flags,
  most_words,
  most_sequences,
  least_run,
  most_run,
  section_count,
  only_if,
  in_front,
  sections,
  ranges,
  class_ranges,
  headed,
  sequences,
  excluded,
  is_whitelisted,
  has_list,
  flags_fit,
  group,
  Sequences,
  behind_one,
  runs,
  list_part,
  GroupEnd,
  with_list,
  group_end,
  groups,
  wholes,
  table_of,
  parse,
  empty_table,
  the_table,
}
use Rattle.groups.specs.Groups.{Numbered, group_of}
use Rattle.compounds.specs.Compounds.{compounds, in_list}
use Rattle.label.specs.Judge.{unless, judge_in_group}
use Rattle.label_laws.specs.Unique.{group-holds}
use Rattle.label_laws.specs.Lists16.{from14, listed}

-- what made a result out of a test, and out of an entry in front
module _ {A C : Type 0} where
  only_some : (b : Bool) (o : Option A) (x : A) → only_if b o ≡ some x → (b ≡ true → o ≡ some x → C) → C
  only_some true o x e k = k refl e
  only_some false o x e k = absurd (none-ne-some x e)

  front_some : (x : A) (o : Option (List A)) (xs : List A) → in_front x o ≡ some xs → ((rest : List A) → o ≡ some rest → xs ≡ x ∷ rest → C) → C
  front_some x none xs e k = absurd (none-ne-some xs e)
  front_some x (some rest) xs e k = k rest refl (sym (some-injective (x ∷ rest) xs e))

-- a sequence "of 2 to 8" codepoints; a group that has a list is whitelisted, and its list has at most 64 such
abbrev pub run_fits : List ℕ → Bool
run_fits q = leb least_run (length q) && leb (length q) most_run

abbrev pub list_fits : Bool → Option (List (List ℕ)) → Bool
list_fits white list = on_some list (λ qs. white && leb (length qs) most_sequences && all run_fits qs) true

abbrev pub group_fits : Group → Bool
group_fits g = list_fits g.whitelisted g.sequences

runs_fit : (k : ℕ) (ws : List ℕ) (q : Sequences) → runs k ws ≡ some q → (length q.list ≡ k) × (all run_fits q.list ≡ true)
unfolding runs
runs_fit zero ws q e = let z : q.list ≡ [] = cc in (rw z, rw z)
runs_fit (suc k) [] q e = absurd (none-ne-some q e)
runs_fit (suc k) (n ∷ ws) q e =
    let test : Bool = leb least_run n && leb n most_run && leb n (length ws) in
    only_some test (map (behind_one (take n ws)) (runs k (drop n ws))) q e λ t f. go (runs k (drop n ws)) refl (λ r h. runs_fit k (drop n ws) r h) t f
  where
    go : (o : Option Sequences) → runs k (drop n ws) ≡ o → ((r : Sequences) → runs k (drop n ws) ≡ some r → (length r.list ≡ k) × (all run_fits r.list ≡ true))
        → (leb least_run n && leb n most_run && leb n (length ws)) ≡ true → map (behind_one (take n ws)) o ≡ some q → (length q.list ≡ suc k) × (all run_fits q.list ≡ true)
    go none p ih t f = absurd (none-ne-some q f)
    go (some r) p ih t f =
        let split : q.list ≡ take n ws ∷ r.list = cc in
        let sizes : (leb least_run n && leb n most_run) ≡ true = both_left (leb least_run n && leb n most_run) (leb n (length ws)) t in
        let inside : n ≤ length ws = leb-true n (length ws) (both_right (leb least_run n && leb n most_run) (leb n (length ws)) t) in
        let below = ih r p in
        (rw split (ap suc below.0), rw (split, length-take-le n ws inside, sizes) below.1)

end_fits : (b white : Bool) (ws : List ℕ) (e : GroupEnd) → (white || not b) ≡ true → group_end b ws ≡ some e → list_fits white e.sequences ≡ true
unfolding group_end list_part
end_fits false white ws e h k = let z : e.sequences ≡ none = cc in rw z
end_fits true false ws e h k = absurd (false≢true h)
end_fits true true [] e h k = absurd (none-ne-some e k)
end_fits true true (n ∷ ws) e h k = go (leb n most_sequences) refl (runs n ws) refl k
  where
    go : (b : Bool) → leb n most_sequences ≡ b → (o : Option Sequences) → runs n ws ≡ o → map with_list (only_if b o) ≡ some e → list_fits true e.sequences ≡ true
    go true t (some q) r f =
        let is : e.sequences ≡ some q.list = cc in
        let p = runs_fit n ws q r in
        rw (is, p.0, t, p.1)
    go true t none r f = absurd (none-ne-some e f)
    go false t o r f = absurd (none-ne-some e f)

pub groups_fit : (k : ℕ) (ws : List ℕ) (gs : List Group) → groups k ws ≡ some gs → all group_fits gs ≡ true
unfolding groups
groups_fit zero [] gs h = let e : gs ≡ [] = cc in rw e
groups_fit zero (w ∷ ws) gs h = absurd (none-ne-some gs h)
groups_fit (suc k) [] gs h = let e : gs ≡ [] = cc in rw e
groups_fit (suc k) (f ∷ []) gs h = absurd (none-ne-some gs h)
groups_fit (suc k) (f ∷ n ∷ ws) gs h =
    let last : List Range → GroupEnd → Option (List Group) = λ rs e. in_front (group f rs e.sequences) (groups k e.rest) in
    let then : List Range → Option (List Group) = λ rs. and_then (group_end (has_list f) (drop n ws)) (last rs) in
    only_some (flags_fit f && leb n (length ws)) (and_then (ranges (take n ws)) then) gs h λ t r.
    then_some (ranges (take n ws)) then gs r λ rs p u.
    then_some (group_end (has_list f) (drop n ws)) (last rs) gs u λ e q v.
    front_some (group f rs e.sequences) (groups k e.rest) gs v λ later l split.
    let flags : flags_fit f ≡ true = both_left (flags_fit f) (leb n (length ws)) t in
    let white : (is_whitelisted f || not (has_list f)) ≡ true = both_right (leb f most_flags) (is_whitelisted f || not (has_list f)) flags in
    rw (split, end_fits (has_list f) (is_whitelisted f) (drop n ws) e white q, groups_fit k e.rest later l)

-- the groups of a table are read from one section
groups-read : (ss : List (List ℕ)) (t : Table) → table_of ss ≡ some t → groups (length (get_or ss 10 [])) (get_or ss 10 []) ≡ some t.groups
unfolding table_of
groups-read ss t e =
    then_some (ranges (get_or ss 0 [])) _ t e λ v0 q0 e0.
    then_some (ranges (get_or ss 1 [])) _ t e0 λ v1 q1 e1.
    then_some (ranges (get_or ss 2 [])) _ t e1 λ v2 q2 e2.
    then_some (ranges (get_or ss 3 [])) _ t e2 λ v3 q3 e3.
    then_some (ranges (get_or ss 4 [])) _ t e3 λ v4 q4 e4.
    then_some (headed (length (get_or ss 5 [])) most_items (get_or ss 5 [])) _ t e4 λ v5 q5 e5.
    then_some (headed (length (get_or ss 6 [])) most_parts (get_or ss 6 [])) _ t e5 λ v6 q6 e6.
    then_some (sequences (length (get_or ss 7 [])) (get_or ss 7 [])) _ t e6 λ v7 q7 e7.
    then_some (excluded (get_or ss 8 [])) _ t e7 λ v8 q8 e8.
    then_some (class_ranges (get_or ss 9 [])) _ t e8 λ v9 q9 e9.
    then_some (groups (length (get_or ss 10 [])) (get_or ss 10 [])) _ t e9 λ v10 q10 e10.
    then_some (wholes (length (get_or ss 11 [])) (get_or ss 11 [])) _ t e10 λ v11 q11 e11.
    then_some (ranges (get_or ss 12 [])) _ t e11 λ v12 q12 e12.
    then_some (ranges (get_or ss 13 [])) _ t e12 λ v13 q13 e13.
    only_some (leb (length v10) most_groups) _ t e13 λ b s. q10 ∙ ap (λ (u : Table). some u.groups) (some-injective _ t s)

parse-fits : (words : List ℕ) (t : Table) → parse words ≡ some t → all group_fits t.groups ≡ true
unfolding parse
parse-fits words t e =
    only_some (leb (length words) most_words) (and_then (sections section_count words) table_of) t e λ b r.
    then_some (sections section_count words) table_of t r λ ss p q.
    groups_fit (length (get_or ss 10 [])) (get_or ss 10 []) t.groups (groups-read ss t q)

-- every group of every table
pub table_fits : (words : List ℕ) → all group_fits (the_table words).groups ≡ true
unfolding the_table empty_table
table_fits words = go (parse words) refl
  where
    go : (o : Option Table) → parse words ≡ o → all group_fits (Option.get_or (parse words) empty_table).groups ≡ true
    go none p = rw p
    go (some t) p = rw p (parse-fits words t p)

-- Of a group of any table that has a list:
module _ (words : List ℕ) (g : Group) (list : List (List ℕ)) (m : Memᴰ g (the_table words).groups) (e : g.sequences ≡ some list) where
  fits : (g.whitelisted && leb (length list) most_sequences && all run_fits list) ≡ true
  fits = rw e at (all-at group_fits m (table_fits words))

  counted : (g.whitelisted && leb (length list) most_sequences) ≡ true
  counted = both_left (g.whitelisted && leb (length list) most_sequences) (all run_fits list) fits

  -- "flag 4, allowed only beside flag 2": it is whitelisted
  pub listed_white : g.whitelisted ≡ true
  listed_white = both_left g.whitelisted (leb (length list) most_sequences) counted

  -- "a count of 0 to 64"
  pub listed_few : length list ≤ most_sequences
  listed_few = leb-true (length list) most_sequences (both_right g.whitelisted (leb (length list) most_sequences) counted)

  -- "records (count 2 to 8, items)"
  pub listed_sizes : (q : List ℕ) → Memᴰ q list → (least_run ≤ length q) × (length q ≤ most_run)
  listed_sizes q k =
      let sizes : run_fits q ≡ true = all-at run_fits k (both_right (g.whitelisted && leb (length list) most_sequences) (all run_fits list) fits) in (
        leb-true least_run (length q) (both_left (leb least_run (length q)) (leb (length q) most_run) sizes),
        leb-true (length q) most_run (both_right (leb least_run (length q)) (leb (length q) most_run) sizes),
      )

  -- "a run of over 7 marks is never listed": with its character these are over 8 codepoints
  pub long_unlisted : (q : List ℕ) → most_run < length q → in_list list q ≡ false
  long_unlisted q long = go (in_list list q) refl
    where
      go : (b : Bool) → in_list list q ≡ b → b ≡ false
      go false h = refl
      go true h =
          let p = any_passing (same_list q) list h in
          let same : length q ≡ length p.element = ap length (same-list q p.element p.passes) in
          absurd (omega (arith, same, (listed_sizes p.element p.member).1))

-- The group that holds a text, of any table, with a list: 13 is not asked, and the list permits what it lists, no more. A text with a character and
-- over 7 marks behind it is refused.
module _ (words : List ℕ) (place : ℕ) (s : List ℕ) (g : Numbered) (list : List (List ℕ)) (found : group_of (the_table words).groups s ≡ some g)
    (e : g.group.sequences ≡ some list) where
  pub judged-listed : judge_in_group (the_table words) place s g
      ≡ unless (not (all (in_list list) (compounds (the_table words) s))) 16 place (from14 (the_table words) place s g)
  judged-listed =
      listed (the_table words) place s g list (listed_white words g.group list (group-holds (the_table words).groups s g found).0 e) e

  pub long_16 : (q : List ℕ) → Memᴰ q (compounds (the_table words) s) → most_run < length q → judge_in_group (the_table words) place s g ≡ refused 16 place
  long_16 q m long = judged-listed ∙ go (all (in_list list) (compounds (the_table words) s)) refl
    where
      unlisted : in_list list q ≡ false
      unlisted = long_unlisted words g.group list (group-holds (the_table words).groups s g found).0 e q long

      go : (b : Bool) → all (in_list list) (compounds (the_table words) s) ≡ b → unless (not b) 16 place (from14 (the_table words) place s g) ≡ refused 16 place
      go false h = refl
      go true h = absurd (false≢true (sym unlisted ∙ all-at (in_list list) m h))
