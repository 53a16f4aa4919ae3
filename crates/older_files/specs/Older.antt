-- Files of versions 1 and 2: the table that the sections of 01, or those of Item 9, give, with the sections that they lack empty, is the table that
-- the file unpacks to. A group's record is read as Item 12 has it, by every reading here: "layout still looks at the words alone". 02, Items 9, 11 and
-- 12.
use Rattle.std.specs.Prelude.{ℕ, zero, suc, ◌≤◌, ◌≡◌, refl, Bool, true, false, List, [], ◌∷◌, ◌++◌, length, get_or, take, drop, leb}
use Rattle.std.proofs.Common.{arith, sym, ap, ◌∙◌, append_assoc, length-append, leb-true, le-leb}
use Rattle.std.proofs.Math.Option.{Option, none, some, some-injective, none-ne-some, map}
use Rattle.std.proofs.Math.ListN.{get_or-eq_default}
use Rattle.std.proofs.lemmas.List.{take-append-le, drop-append-le}
use Rattle.lists.specs.Lists.{and_then}
use Rattle.lists.specs.Laws.{then_some}
use Rattle.answers.specs.Verdict.{accepted}
use Rattle.table.specs.Table.{Range, Table}
use Rattle.table.specs.Layout.{only_if, in_front, most_items, most_parts, most_groups, sections, ranges, class_ranges, headed, sequences, excluded, groups, wholes, table_of, parse}
use Rattle.file_words.specs.FileWords.{counted, file_words}

-- A reading of words as n sections, at most `most` words in all. A section that is not there reads as an empty one. Each section is read as today,
-- groups with their lists (`groups`): flags 6 and 7, which 01 calls a fault, are read too.
unfoldable pub reading : ℕ → ℕ → List ℕ → Option Table
unfolding sections table_of
reading n most ws = only_if (leb (length ws) most) (and_then (sections n ws) table_of)

-- 01's reading, with groups as Item 12 has them: "twelve sections, in this order", and "the whole at most 131,072 words"
abbrev pub parse01 : List ℕ → Option Table
parse01 ws = reading 12 131072 ws

-- the reading of 02's Item 9, with groups as Item 12 has them: "Layout now asks thirteen and allows 131,073 words"
abbrev pub parse09 : List ℕ → Option Table
parse09 ws = reading 13 131073 ws

-- an empty section behind k sections
sections_more : (k : ℕ) (ws : List ℕ) (ss : List (List ℕ)) → sections k ws ≡ some ss → sections (suc k) (ws ++ 0 ∷ []) ≡ some (ss ++ [] ∷ [])
unfolding sections
sections_more zero [] ss e = rw (← some-injective [] ss e)
sections_more zero (w ∷ ws) ss e = absurd (none-ne-some ss e)
sections_more (suc k) [] ss e = absurd (none-ne-some ss e)
sections_more (suc k) (n ∷ ws) ss e = go (λ rest q. sections_more k (drop n ws) rest q) (leb n (length ws)) refl (sections k (drop n ws)) refl e
  where
    go : ((rest : List (List ℕ)) → sections k (drop n ws) ≡ some rest → sections (suc k) (drop n ws ++ 0 ∷ []) ≡ some (rest ++ [] ∷ [])) → (b : Bool) → leb n (length ws) ≡ b → (o : Option (List (List ℕ))) → sections k (drop n ws) ≡ o → only_if b (in_front (take n ws) o) ≡ some ss
        → sections (suc (suc k)) (n ∷ ws ++ 0 ∷ []) ≡ some (ss ++ [] ∷ [])
    go ih true t (some rest) q h =
        let fits : n ≤ length ws = leb-true n (length ws) t in
        let more : leb n (length (ws ++ 0 ∷ [])) ≡ true = le-leb n (length (ws ++ 0 ∷ [])) (omega (arith, length-append ws (0 ∷ []))) in
        let s : take n ws ∷ rest ≡ ss = some-injective (take n ws ∷ rest) ss h in
        rw (more, take-append-le n ws (0 ∷ []) fits, drop-append-le n ws (0 ∷ []) fits, ih rest q, ← s)
    go ih true t none q h = absurd (none-ne-some ss h)
    go ih false t o q h = absurd (none-ne-some ss h)

-- an empty part behind the others is what is read there anyway
part_more : (ss : List (List ℕ)) (k : ℕ) → get_or (ss ++ [] ∷ []) k [] ≡ get_or ss k []
part_more [] zero = refl
part_more [] (suc k) = refl
part_more (s ∷ ss) zero = refl
part_more (s ∷ ss) (suc k) = part_more ss k

table_more : (ss : List (List ℕ)) → table_of (ss ++ [] ∷ []) ≡ table_of ss
unfolding table_of
table_more ss =
    rw (part_more ss 0, part_more ss 1, part_more ss 2, part_more ss 3, part_more ss 4, part_more ss 5, part_more ss 6, part_more ss 7, part_more ss 8, part_more ss 9, part_more ss 10, part_more ss 11, part_more ss 12, part_more ss 13)

-- what n sections read is read again by n + 1 once the word 0 is added
one_more : (n most : ℕ) (ws : List ℕ) (t : Table) → reading n most ws ≡ some t → reading (suc n) (suc most) (ws ++ 0 ∷ []) ≡ some t
unfolding reading
one_more n most ws t e = go (leb (length ws) most) refl e
  where
    go : (b : Bool) → leb (length ws) most ≡ b → only_if b (and_then (sections n ws) table_of) ≡ some t → only_if (leb (length (ws ++ 0 ∷ [])) (suc most)) (and_then (sections (suc n) (ws ++ 0 ∷ [])) table_of) ≡ some t
    go true s h =
        let small : leb (length (ws ++ 0 ∷ [])) (suc most) ≡ true = le-leb (length (ws ++ 0 ∷ [])) (suc most) (omega (arith, leb-true (length ws) most s, length-append ws (0 ∷ []))) in
        then_some (sections n ws) table_of t h λ ss q r. rw (small, sections_more n ws ss q) (table_more ss ∙ r)
    go false s h = absurd (none-ne-some t h)

-- what Item 9 reads is read again once the word 0 is added, and what 01 reads once two are
pub older_same09 : (ws : List ℕ) (t : Table) → parse09 ws ≡ some t → parse (ws ++ 0 ∷ []) ≡ some t
unfolding parse reading
older_same09 ws t e = one_more 13 131073 ws t e

pub older_same01 : (ws : List ℕ) (t : Table) → parse01 ws ≡ some t → parse (ws ++ 0 ∷ 0 ∷ []) ≡ some t
older_same01 ws t e = rw (append_assoc ws (0 ∷ []) (0 ∷ [])) at (older_same09 (ws ++ 0 ∷ []) t (one_more 12 131072 ws t e))

-- k sections are k lists
sections-many : (k : ℕ) (ws : List ℕ) (ss : List (List ℕ)) → sections k ws ≡ some ss → length ss ≡ k
unfolding sections
sections-many zero [] ss e = rw (← some-injective [] ss e)
sections-many zero (w ∷ ws) ss e = absurd (none-ne-some ss e)
sections-many (suc k) [] ss e = absurd (none-ne-some ss e)
sections-many (suc k) (n ∷ ws) ss e = go (λ rest q. sections-many k (drop n ws) rest q) (leb n (length ws)) (sections k (drop n ws)) refl e
  where
    go : ((rest : List (List ℕ)) → sections k (drop n ws) ≡ some rest → length rest ≡ k) → (b : Bool) (o : Option (List (List ℕ))) → sections k (drop n ws) ≡ o → only_if b (in_front (take n ws) o) ≡ some ss → length ss ≡ suc k
    go ih true (some rest) q h = rw (← some-injective (take n ws ∷ rest) ss h) (ap suc (ih rest q))
    go ih true none q h = absurd (none-ne-some ss h)
    go ih false o q h = absurd (none-ne-some ss h)

-- the last two sections are what parts 12 and 13 spell
record LastRead (ss : List (List ℕ)) (t : Table) : Type 0 where
  escape : ranges (get_or ss 12 []) ≡ some t.escape
  quick : ranges (get_or ss 13 []) ≡ some t.quick_check

last_of : (ss : List (List ℕ)) (e q : List Range) (u t : Table) → some u ≡ some t → ranges (get_or ss 12 []) ≡ some e → ranges (get_or ss 13 []) ≡ some q
    → u.escape ≡ e → u.quick_check ≡ q → LastRead ss t
last_of ss e q u t h a b c d =
    let s : u ≡ t = some-injective u t h in
    record { escape = rw (← s, c) a; quick = rw (← s, d) b }

last_read : (ss : List (List ℕ)) (t : Table) → table_of ss ≡ some t → LastRead ss t
unfolding table_of
last_read ss t e =
    then_some (ranges (get_or ss 0 [])) _ t e λ v0 q0 e0.
    then_some (ranges (get_or ss 1 [])) _ t e0 λ v1 q1 e1.
    then_some (ranges (get_or ss 2 [])) _ t e1 λ v2 q2 e2.
    then_some (ranges (get_or ss 3 [])) _ t e2 λ v3 q3 e3.
    then_some (ranges (get_or ss 4 [])) _ t e3 λ v4 q4 e4.
    then_some (headed (length (get_or ss 5 [])) most_items (get_or ss 5 [])) _ t e4 λ v5 q5 e5.
    then_some (headed (length (get_or ss 6 [])) most_parts (get_or ss 6 [])) _ t e5 λ v6 q6 e6.
    then_some (sequences (length (get_or ss 7 [])) (get_or ss 7 [])) _ t e6 λ v7 q7 e7.
    then_some (excluded (get_or ss 8 [])) _ t e7 λ v8 q8 e8.
    then_some (class_ranges (get_or ss 9 [])) _ t e8 λ v9 q9 e9.
    then_some (groups (length (get_or ss 10 [])) (get_or ss 10 [])) _ t e9 λ v10 q10 e10.
    then_some (wholes (length (get_or ss 11 [])) (get_or ss 11 [])) _ t e10 λ v11 q11 e11.
    then_some (ranges (get_or ss 12 [])) _ t e11 λ v12 q12 e12.
    then_some (ranges (get_or ss 13 [])) _ t e12 λ v13 q13 e13.
    last_of ss v12 v13 _ t (only_some (leb (length v10) most_groups) _ t e13) q12 q13 refl refl
  where
    only_some : {A : Type 0} (b : Bool) (o : Option A) (a : A) → only_if b o ≡ some a → o ≡ some a
    only_some true o a h = h
    only_some false o a h = absurd (none-ne-some a h)

-- behind n sections no part holds a word
past_empty : (n i : ℕ) (ws : List ℕ) (ss : List (List ℕ)) (rs : List Range) → sections n ws ≡ some ss → n ≤ i → ranges (get_or ss i []) ≡ some rs → rs ≡ []
unfolding ranges
past_empty n i ws ss rs q h e =
    let past : get_or ss i [] ≡ [] = get_or-eq_default ss [] {n = i} (omega (arith, sections-many n ws ss q)) in
    sym (some-injective [] rs (sym (ap ranges past) ∙ e))

-- the sections of a table that was read
read_from : {C : Type 0} (n most : ℕ) (ws : List ℕ) (t : Table) → reading n most ws ≡ some t → ((ss : List (List ℕ)) → sections n ws ≡ some ss → LastRead ss t → C) → C
unfolding reading
read_from {C} n most ws t e k = go (leb (length ws) most) e
  where
    go : (b : Bool) → only_if b (and_then (sections n ws) table_of) ≡ some t → C
    go true h = then_some (sections n ws) table_of t h λ ss q r. k ss q (last_read ss t r)
    go false h = absurd (none-ne-some t h)

-- what 01 reads has nothing to show in braces, and what 01 or Item 9 reads has no quick-check set
pub no_escape : (ws : List ℕ) (t : Table) → parse01 ws ≡ some t → t.escape ≡ []
no_escape ws t e = read_from 12 131072 ws t e λ ss q l. past_empty 12 12 ws ss t.escape q (omega arith) l.escape

pub no_quick : (n most : ℕ) (ws : List ℕ) (t : Table) → n ≤ 13 → reading n most ws ≡ some t → t.quick_check ≡ []
no_quick n most ws t h e = read_from n most ws t e λ ss q l. past_empty n 13 ws ss t.quick_check q h l.quick

-- An older file whose words were read as a table before: what it unpacks to is that table, and its quick-check set is empty.
pub record OldFile (version : ℕ) (rest : List ℕ) (t : Table) : Type 0 where
  pub words : List ℕ
  pub unpacks : file_words (version ∷ rest) ≡ accepted words
  pub holds : parse words ≡ some t
  pub quick : t.quick_check ≡ []

-- Version 2, where Item 9 reads its words.
pub old_file_2 : (rest ws : List ℕ) (t : Table) → counted rest ≡ accepted ws → parse09 ws ≡ some t → OldFile 2 rest t
unfolding file_words
old_file_2 rest ws t c e = record { words = ws ++ 0 ∷ []; unpacks = rw c; holds = older_same09 ws t e; quick = no_quick 13 131073 ws t (omega arith) e }

-- Version 1, where 01 reads its words: the should-escape section is empty too.
pub old_file_1 : (rest ws : List ℕ) (t : Table) → counted rest ≡ accepted ws → parse01 ws ≡ some t → OldFile 1 rest t × (t.escape ≡ [])
unfolding file_words
old_file_1 rest ws t c e =
    (record { words = ws ++ 0 ∷ 0 ∷ []; unpacks = rw c; holds = older_same01 ws t e; quick = no_quick 12 131072 ws t (omega arith) e }, no_escape ws t e)

-- A file whose words 01 does not read can become a table by the added words: eight empty sections, 1 0, three empty sections and 2 0.
abbrev odd : List ℕ
odd = 0 ∷ 0 ∷ 0 ∷ 0 ∷ 0 ∷ 0 ∷ 0 ∷ 0 ∷ 1 ∷ 0 ∷ 0 ∷ 0 ∷ 0 ∷ 2 ∷ 0 ∷ []

pub odd-fault : parse01 odd ≡ none
unfolding reading
odd-fault = refl

pub odd_file : map (λ (t : Table). t.escape) (parse (odd ++ 0 ∷ 0 ∷ [])) ≡ some (record { first = 0; last = 0 } ∷ [])
unfolding parse
odd_file = refl
