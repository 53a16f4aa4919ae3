-- Eight places of a section, from which a search may start: none is set, or one more.
use Rattle.std.specs.Prelude.{ℕ, cond, leb}
use Rattle.place_marks.specs.declared.Four.{Four}
use Rattle.place_marks.specs.declared.Marks.{Marks}

-- no mark: each stands at the start
abbrev pub no_marks : Marks
no_marks = let f : Four = record { p = 0; q = 0; r = 0; s = 0 } in record { a = f; b = f }

-- the largest place that a mark holds
abbrev pub most_place : ℕ
most_place = 4294967295

-- a mark is added behind the others, and the first of them dropped; a place that is too large is not set
unfoldable pub with_mark : Marks → ℕ → Marks
with_mark m at =
    let a = m.a in
    let b = m.b in
    cond (leb at most_place) (record { a = record { p = a.q; q = a.r; r = a.s; s = b.p }; b = record { p = b.q; q = b.r; r = b.s; s = at } }) m
