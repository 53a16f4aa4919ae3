-- "For a label that reaches this test, the source's early exit at a Unique character (in exactly one group, not confused) never changes the
-- answer": the loop of the source (ENSIP-15, "Wholes"), its exits included, answers as `confusable` does.
use Rattle.std.specs.Prelude.{ℕ, suc, ◌≡◌, refl, Bool, true, false, not, ◌&&◌, ◌||◌, cond, eqb}
use Rattle.std.proofs.Common.{arith, sym, ap, subst, ◌∙◌, true≢false, ⊎_elim, eqb-true}
use Rattle.std.proofs.lemmas.Bool.{false≢true, not-true}
use mathlib.Core.List.{List, [], ◌∷◌, ◌++◌, Memᴰ}
use Rattle.std.proofs.Math.Option.{Option, none, some}
use Rattle.lists.specs.Lists.{all, any, count_with, is_empty, is_some, keep, on_some}
use Rattle.lists.specs.Laws.{both_left, both_right, either, keep_member}
use Rattle.lists.specs.Members.{any_passing, any_same, any-keep, passing_any, all-at, all_of, keep_keeps, only_one}
use Rattle.table.specs.Table.{Table, Group, Whole}
use Rattle.table.specs.Lookup.{holds, whole_of}
use Rattle.groups.specs.Groups.{Numbered, holds_all, group_of, group_from}
use Rattle.confusable.specs.Confusable.{is_confused, outside, respells, confusable}
use Rattle.confusable.proofs.HolderLaws.{not_respelled}
use Rattle.label_laws.specs.OwnGroup.{own_group}

-- the different characters of a text: "each unique character in the label"
unfoldable pub once : List ℕ → List ℕ
once [] = []
once (c ∷ s) = c ∷ keep (λ d. not (eqb c d)) (once s)

-- Unique: "characters that appear in exactly one group and are not Confused"
abbrev pub is_unique : Table → ℕ → Bool
is_unique t c = not (is_confused t c) && eqb (count_with (λ g. holds g c) t.groups) 1

-- The source's loop over the characters, with the groups that remain, the buffer, and whether a Confused character was found.
unfoldable pub source_loop : Table → List Group → List ℕ → Bool → List ℕ → Bool
unfolding is_confused
source_loop t gs buffer found [] = found && (is_empty buffer || any (holds_all buffer) gs)
source_loop t gs buffer found (c ∷ s) =
    let buffered = source_loop t gs (buffer ++ c ∷ []) found s in
    let plain = cond (is_unique t c) false buffered in
    on_some (whole_of t.wholes c)
    (λ w.
    let left = keep (λ g. any (holds g) (outside t w c)) gs in
    let retained = source_loop t left buffer true s in
    cond (is_empty left) false retained)
    plain

-- "Start with the set of ALL groups"
unfoldable pub source_confusable : Table → List ℕ → Bool
unfolding source_loop once
source_confusable t s = source_loop t t.groups [] false (once s)

-- Two tests are one where each passes if the other does.
same_test : (a b : Bool) → (a ≡ true → b ≡ true) → (b ≡ true → a ≡ true) → a ≡ b
same_test true b f g = sym (f refl)
same_test false true f g = g refl
same_test false false f g = refl

-- what the loop comes to
abbrev pub due : Table → List Group → List ℕ → Bool → List ℕ → Bool
due t gs buffer found s = (found || any (is_confused t) s) && any (λ g. all (respells t g) s && holds_all buffer g) gs

-- what holds as the loop goes: groups remain, they are groups of the table, and the text's own group is gone once a Confused was found
pub record Going (t : Table) (own : Group) (gs : List Group) (found : Bool) : Type 0 where
  pub remain : is_empty gs ≡ false
  pub groups : {g : Group} → Memᴰ g gs → Memᴰ g t.groups
  pub gone : found ≡ true → Memᴰ own gs → ⊥

-- with no character left
ends : (t : Table) (own : Group) (gs : List Group) (buffer : List ℕ) (found : Bool) → Going t own gs found → found && (is_empty buffer || any (holds_all buffer) gs) ≡ due t gs buffer found []
ends t own [] buffer found i = absurd (true≢false i.remain)
ends t own (g ∷ gs) [] false i = refl
ends t own (g ∷ gs) [] true i = refl
ends t own (g ∷ gs) (b ∷ bs) false i = refl
ends t own (g ∷ gs) (b ∷ bs) true i = refl

-- a character that is not confused is respelled by the groups that hold it
plain-respells : (t : Table) (g : Group) (c : ℕ) → is_confused t c ≡ false → respells t g c ≡ holds g c
unfolding is_confused respells
plain-respells t g c e = go (whole_of t.wholes c) e
  where
    go : (o : Option Whole) → is_some o ≡ false → on_some o (λ w. any (holds g) (outside t w c)) (holds g c) ≡ holds g c
    go none f = refl
    go (some w) f = absurd (true≢false f)

all_snoc : (p : ℕ → Bool) (a : List ℕ) (c : ℕ) → all p (a ++ c ∷ []) ≡ all p a && p c
all_snoc p [] c = go (p c)
  where
    go : (b : Bool) → b && true ≡ b
    go true = refl
    go false = refl
all_snoc p (x ∷ a) c = go (p x) (all_snoc p a c)
  where
    go : (b : Bool) → all p (a ++ c ∷ []) ≡ all p a && p c → b && all p (a ++ c ∷ []) ≡ b && all p a && p c
    go true e = e
    go false e = refl

turn : (a b c : Bool) → a && (b && c) ≡ c && a && b
turn true true c = go c
  where
    go : (c : Bool) → c ≡ c && true && true
    go true = refl
    go false = refl
turn true false true = refl
turn true false false = refl
turn false b true = refl
turn false b false = refl

-- the buffer grows by a character that is not confused: nothing changes
grows : (t : Table) (gs : List Group) (buffer : List ℕ) (found : Bool) (c : ℕ) (s : List ℕ) → is_confused t c ≡ false → due t gs (buffer ++ c ∷ []) found s ≡ due t gs buffer found (c ∷ s)
grows t gs buffer found c s e =
    rw e
    (ap (λ (b : Bool). (found || any (is_confused t) s) && b)
    (any_same (λ g. all (respells t g) s && holds_all (buffer ++ c ∷ []) g) (λ g. respells t g c && all (respells t g) s && holds_all buffer g) gs one))
  where
    one : (g : Group) → all (respells t g) s && holds_all (buffer ++ c ∷ []) g ≡ respells t g c && all (respells t g) s && holds_all buffer g
    one g = rw (all_snoc (holds g) buffer c, plain-respells t g c e) (turn (all (respells t g) s) (holds_all buffer g) (holds g c))

-- at a Unique character the answer is already "not confusable"
stops : (t : Table) (own : Group) (gs : List Group) (buffer : List ℕ) (found : Bool) (c : ℕ) (s : List ℕ) → Going t own gs found → Memᴰ own t.groups → holds_all (c ∷ s) own ≡ true → is_unique t c ≡ true → (b : Bool) → due t gs buffer found (c ∷ s) ≡ b → b ≡ false
stops t own gs buffer found c s i m h u false e = refl
stops t own gs buffer found c s i m h u true e =
    let p = any_passing (λ g. all (respells t g) (c ∷ s) && holds_all buffer g) gs (both_right (found || any (is_confused t) (c ∷ s)) (any (λ g. all (respells t g) (c ∷ s) && holds_all buffer g) gs) e) in
    let g = p.element in
    let respelled : all (respells t g) (c ∷ s) ≡ true = both_left (all (respells t g) (c ∷ s)) (holds_all buffer g) p.passes in
    let plain : is_confused t c ≡ false = not-true (is_confused t c) (both_left (not (is_confused t c)) (eqb (count_with (λ g. holds g c) t.groups) 1) u) in
    let once : count_with (λ g. holds g c) t.groups ≡ 1 = eqb-true (count_with (λ g. holds g c) t.groups) 1 (both_right (not (is_confused t c)) (eqb (count_with (λ g. holds g c) t.groups) 1) u) in
    let held : holds g c ≡ true = sym (plain-respells t g c plain) ∙ both_left (respells t g c) (all (respells t g) s) respelled in
    let same : g ≡ own = only_one (λ g. holds g c) once (i.groups p.member) held m (both_left (holds own c) (all (holds own) s) h) in
    let own-respells : all (respells t own) (c ∷ s) ≡ true = subst (λ (z : Group). all (respells t z) (c ∷ s) ≡ true) same respelled in
    let own-remains : Memᴰ own gs = subst (λ (z : Group). Memᴰ z gs) same p.member in
    absurd
    (⊎_elim (λ f. i.gone f own-remains)
    (λ k. true≢false (sym own-respells ∙ own_group t own (c ∷ s) m h k))
    (either found (any (is_confused t) (c ∷ s)) (both_left (found || any (is_confused t) (c ∷ s)) (any (λ g. all (respells t g) (c ∷ s) && holds_all buffer g) gs) e)))

-- a character with a whole is confused, and respelled by the groups that hold a member outside its extent
confused_whole : (t : Table) (w : Whole) (c : ℕ) → whole_of t.wholes c ≡ some w → is_confused t c ≡ true
unfolding is_confused
confused_whole t w c e = ap is_some e

plain-whole : (t : Table) (c : ℕ) → whole_of t.wholes c ≡ none → is_confused t c ≡ false
unfolding is_confused
plain-whole t c e = ap is_some e

whole-respells : (t : Table) (w : Whole) (g : Group) (c : ℕ) → whole_of t.wholes c ≡ some w → respells t g c ≡ any (holds g) (outside t w c)
unfolding respells
whole-respells t w g c e = rw e

group_left : (a b c : Bool) → a && (b && c) ≡ a && b && c
group_left true b c = refl
group_left false b c = refl

-- the groups that remain after a Confused character
retains : (t : Table) (w : Whole) (gs : List Group) (buffer : List ℕ) (found : Bool) (c : ℕ) (s : List ℕ) → whole_of t.wholes c ≡ some w → due t (keep (λ g. any (holds g) (outside t w c)) gs) buffer true s ≡ due t gs buffer found (c ∷ s)
retains t w gs buffer found c s e =
    any-keep (λ g. any (holds g) (outside t w c)) (λ g. all (respells t g) s && holds_all buffer g) gs
    ∙ any_same (λ g. any (holds g) (outside t w c) && (all (respells t g) s && holds_all buffer g)) (λ g. all (respells t g) (c ∷ s) && holds_all buffer g) gs one
    ∙ sym (shown found (confused_whole t w c e))
  where
    one : (g : Group) → any (holds g) (outside t w c) && (all (respells t g) s && holds_all buffer g) ≡ all (respells t g) (c ∷ s) && holds_all buffer g
    one g = rw (whole-respells t w g c e) (group_left (any (holds g) (outside t w c)) (all (respells t g) s) (holds_all buffer g))

    shown : (f : Bool) → is_confused t c ≡ true → due t gs buffer f (c ∷ s) ≡ any (λ g. all (respells t g) (c ∷ s) && holds_all buffer g) gs
    shown true k = refl
    shown false k = rw k

-- the loop comes to what is due
pub loop_due : (t : Table) (own : Group) (gs : List Group) (buffer : List ℕ) (found : Bool) (s : List ℕ) → Going t own gs found → Memᴰ own t.groups → holds_all s own ≡ true → source_loop t gs buffer found s ≡ due t gs buffer found s
unfolding source_loop
loop_due t own gs buffer found [] i m h = ends t own gs buffer found i
loop_due t own gs buffer found (c ∷ s) i m h =
    go (whole_of t.wholes c) refl (λ gs' j. loop_due t own gs' buffer true s j m rest) (loop_due t own gs (buffer ++ c ∷ []) found s i m rest)
  where
    rest : holds_all s own ≡ true
    rest = both_right (holds own c) (all (holds own) s) h

    left : Whole → List Group
    left w = keep (λ g. any (holds g) (outside t w c)) gs

    goes : (w : Whole) → whole_of t.wholes c ≡ some w → is_empty (left w) ≡ false → Going t own (left w) true
    goes w e k =
        record {
          remain = k;
          groups = λ n. i.groups (keep_member (λ g. any (holds g) (outside t w c)) gs _ n).0;
          gone = λ f n. true≢false (sym (keep_member (λ g. any (holds g) (outside t w c)) gs own n).1 ∙ sym (whole-respells t w own c e) ∙ not_respelled t own c m (both_left (holds own c) (all (holds own) s) h) (confused_whole t w c e));
        }

    nothing : (gs' : List Group) → is_empty gs' ≡ true → due t gs' buffer true s ≡ false
    nothing [] k = refl
    nothing (g ∷ gs') k = absurd (false≢true k)

    retained : (w : Whole) → whole_of t.wholes c ≡ some w → ((gs' : List Group) → Going t own gs' true → source_loop t gs' buffer true s ≡ due t gs' buffer true s) → (b : Bool) → is_empty (left w) ≡ b → cond b false (source_loop t (left w) buffer true s) ≡ due t gs buffer found (c ∷ s)
    retained w e ih true k = sym (nothing (left w) k) ∙ retains t w gs buffer found c s e
    retained w e ih false k = ih (left w) (goes w e k) ∙ retains t w gs buffer found c s e

    plainly : is_confused t c ≡ false → source_loop t gs (buffer ++ c ∷ []) found s ≡ due t gs (buffer ++ c ∷ []) found s → (b : Bool) → is_unique t c ≡ b → cond b false (source_loop t gs (buffer ++ c ∷ []) found s) ≡ due t gs buffer found (c ∷ s)
    plainly e ih true u = sym (stops t own gs buffer found c s i m h u (due t gs buffer found (c ∷ s)) refl)
    plainly e ih false u = ih ∙ grows t gs buffer found c s e

    go : (o : Option Whole) → whole_of t.wholes c ≡ o → ((gs' : List Group) → Going t own gs' true → source_loop t gs' buffer true s ≡ due t gs' buffer true s) → source_loop t gs (buffer ++ c ∷ []) found s ≡ due t gs (buffer ++ c ∷ []) found s → on_some o (λ w. cond (is_empty (left w)) false (source_loop t (left w) buffer true s)) (cond (is_unique t c) false (source_loop t gs (buffer ++ c ∷ []) found s)) ≡ due t gs buffer found (c ∷ s)
    go (some w) e ih ih' = retained w e ih (is_empty (left w)) refl
    go none e ih ih' = plainly (plain-whole t c e) ih' (is_unique t c) refl

-- the different characters are those of the text
once_member : {c : ℕ} (s : List ℕ) → Memᴰ c (once s) → Memᴰ c s
unfolding once
once_member [] m = m
once_member (x ∷ s) (mathlib.Core.List.Memᴰ.head e) = mathlib.Core.List.Memᴰ.head e
once_member {c} (x ∷ s) (mathlib.Core.List.Memᴰ.tail m) = mathlib.Core.List.Memᴰ.tail (once_member s (keep_member (λ d. not (eqb x d)) (once s) c m).0)

member_once : {c : ℕ} (s : List ℕ) → Memᴰ c s → Memᴰ c (once s)
unfolding once
member_once [] m = m
member_once {c} (x ∷ s) (mathlib.Core.List.Memᴰ.head e) = mathlib.Core.List.Memᴰ.head e
member_once {c} (x ∷ s) (mathlib.Core.List.Memᴰ.tail m) = go (eqb x c) refl (member_once s m)
  where
    go : (b : Bool) → eqb x c ≡ b → Memᴰ c (once s) → Memᴰ c (x ∷ keep (λ d. not (eqb x d)) (once s))
    go true e k = mathlib.Core.List.Memᴰ.head (sym (eqb-true x c e))
    go false e k = mathlib.Core.List.Memᴰ.tail (keep_keeps (λ d. not (eqb x d)) k (ap not e))

all_once : (p : ℕ → Bool) (s : List ℕ) → all p (once s) ≡ all p s
all_once p s =
    same_test (all p (once s)) (all p s) (λ e. all_of p s (λ a m. all-at p (member_once s m) e))
    (λ e. all_of p (once s) (λ a m. all-at p (once_member s m) e))

any-once : (p : ℕ → Bool) (s : List ℕ) → any p (once s) ≡ any p s
any-once p s =
    same_test (any p (once s)) (any p s)
    (λ e. let q = any_passing p (once s) e in passing_any p (once_member s q.member) q.passes)
    (λ e. let q = any_passing p s e in passing_any p (member_once s q.member) q.passes)

-- the group of a text is a group of the table and holds it all
group_from_lem : (n : ℕ) (gs : List Group) (s : List ℕ) (g : Numbered) → group_from n gs s ≡ some g → Memᴰ g.group gs × (holds_all s g.group ≡ true)
unfolding group_from
group_from_lem n [] s g e = absurd (let z : ◌≡◌ {A = ℕ} 0 1 = cc in omega arith)
group_from_lem n (h ∷ gs) s g e = go (holds_all s h) refl e (group_from_lem (suc n) gs s g)
  where
    go : (b : Bool) → holds_all s h ≡ b → cond b (some (record { number = n; group = h })) (group_from (suc n) gs s) ≡ some g → (group_from (suc n) gs s ≡ some g → Memᴰ g.group gs × (holds_all s g.group ≡ true)) → Memᴰ g.group (h ∷ gs) × (holds_all s g.group ≡ true)
    go true q f r =
        let first : ◌≡◌ {A = Numbered} (record { number = n; group = h }) g = cc in
        let same : h ≡ g.group = ap (λ (x : Numbered). x.group) first in
        (mathlib.Core.List.Memᴰ.head (sym same), rw (← same) q)
    go false q f r = let k = r f in (mathlib.Core.List.Memᴰ.tail k.0, k.1)

pub group-holds : (gs : List Group) (s : List ℕ) (g : Numbered) → group_of gs s ≡ some g → Memᴰ g.group gs × (holds_all s g.group ≡ true)
unfolding group_of
group-holds gs s g e = group_from_lem 0 gs s g e

some_remain : {g : Group} (gs : List Group) → Memᴰ g gs → is_empty gs ≡ false
some_remain [] m = elim m [ ]
some_remain (h ∷ gs) m = refl

-- A label that reaches the look-alike test is confusable exactly when the source's loop, with its early exits, says so.
pub source_agrees : (t : Table) (s : List ℕ) (g : Numbered) → group_of t.groups s ≡ some g → source_confusable t s ≡ confusable t s
unfolding source_confusable confusable
source_agrees t s g e =
    loop_due t g.group t.groups [] false (once s)
    (record { remain = some_remain t.groups k.0; groups = λ m. m; gone = λ f m. false≢true f })
    k.0 (all_once (holds g.group) s ∙ k.1)
    ∙ ap (λ (b : Bool). b && any (λ g. all (respells t g) (once s) && true) t.groups) (any-once (is_confused t) s)
    ∙ ap (λ (b : Bool). any (is_confused t) s && b) (any_same (λ g. all (respells t g) (once s) && true) (λ g. all (respells t g) s) t.groups one)
  where
    k : Memᴰ g.group t.groups × (holds_all s g.group ≡ true)
    k = group-holds t.groups s g e

    last : (b : Bool) → b && true ≡ b
    last true = refl
    last false = refl

    one : (h : Group) → all (respells t h) (once s) && true ≡ all (respells t h) s
    one h = last (all (respells t h) (once s)) ∙ all_once (respells t h) s
