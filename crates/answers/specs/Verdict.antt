-- A refusal is a number and a place; the table "Refusal numbers" of the scope document lists them.
use Rattle.std.specs.Prelude.{ℕ}

pub data Verdict (A : Type 0) : Type 0 where
  accepted : A → Verdict A
  refused : (number place : ℕ) → Verdict A

module _ {A B : Type 0} where
  -- the next test, where the one before accepted
  abbrev pub next : Verdict A → (A → Verdict B) → Verdict B
  next (accepted a) f = f a
  next (refused n p) f = refused n p
