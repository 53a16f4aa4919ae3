-- The calls for NFD and NFC of a text, by a table, for which 01 does not ask. Refusal 1 is 01's layout fault; the others, 50 to 52, stand in
-- full_decomposition/specs/Within.antt.
use Rattle.std.specs.Prelude.{ℕ, refl, List, length}
use Rattle.lists.specs.Lists.{on_some}
use Rattle.answers.specs.Verdict.{Verdict, refused}
use Rattle.ending.specs.Ending.{Answering, Result, result_of}
use Rattle.table.specs.Table.{Table}
use Rattle.table.specs.Layout.{parse}
use Rattle.text.specs.Ordering.{nfd}
use Rattle.text.specs.Composition.{nfc}
use Rattle.full_decomposition.specs.Within.{FormAnswer, FormValues, form_values, form_within}

-- the length of the form, 0 beside a refusal
abbrev pub length_of : FormAnswer → ℕ
length_of r = (form_values r).length

-- the form of a text by the words of a table, with an answer buffer of `room` words and a work area of `work` words
unfoldable pub form_by : (Table → List ℕ → List ℕ) → List ℕ → List ℕ → ℕ → ℕ → Verdict (List ℕ)
unfolding parse form_within
form_by form text words room work = on_some (parse words) (λ t. form_within form t text room work) (refused 1 0)

-- how both calls answer
abbrev pub form_answering : Answering (List ℕ) FormValues
form_answering =
    record {
      form = λ s. s;
      given = λ s. record { number = 0; length = length s };
      beside = λ n p. record { number = n; length = 0 };
      length_of = λ v. v.length;
      long = λ s. refl;
      none = λ n p. refl;
    }

-- what a call answers, and every word of the answer buffer and of the work area afterwards
abbrev pub Forming : Type 0
Forming = Result FormValues

-- the call for NFD on a text and the words of a table, with an answer buffer of `room` words and a work area of `work` words
unfoldable pub nfd_call : List ℕ → List ℕ → ℕ → ℕ → Forming
unfolding form_by nfd
nfd_call text words room work = result_of form_answering room work (form_by nfd text words room work)

-- the call for NFC
unfoldable pub nfc_call : List ℕ → List ℕ → ℕ → ℕ → Forming
unfolding form_by nfc
nfc_call text words room work = result_of form_answering room work (form_by nfc text words room work)
