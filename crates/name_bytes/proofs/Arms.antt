-- The three ways on from what the reader answers.
use Rattle.std.specs.Prelude.{Result}
use Rattle.answers.specs.declared.Refusal.{Refusal}
use Rattle.answers.specs.declared.AcceptedName.{AcceptedName}
use Prim.Native.Nat.{ℕ, ◌+◌, ◌<◌, ◌≤◌}
use native.Mathlib.Omega.{arith}
use mathlib.Core.Path.{◌≡◌, refl, sym, subst, ◌∙◌}
use mathlib.Core.Bool.{Bool, true, false, not, cond}
use mathlib.Core.List.{List}
use mathlib.Core.Option.{Option, none, some}
use lib.ListN.{length, take, get_or, replicate, length-replicate, get_or-replicate}
use lib.Dec.{ltb}
use borrow.Author.Tests.{lt-ltb}
use Rattle.lists.specs.Lists.{on_some, place_with}
use Rattle.limits.specs.Limits.{most_input, least_work}
use Rattle.answers.specs.Verdict.{Verdict, accepted, refused}
use Rattle.table.specs.Table.{Table}
use Rattle.table.specs.Layout.{parse}
use Rattle.scalar.specs.Scalar.{is_scalar}
use Rattle.name.specs.Label.{admitted}
use Rattle.name.specs.Name.{name_call}
use Rattle.name.specs.Calls.{NameCalls}
use Rattle.utf8_scheme.specs.Scheme.{read}
use Rattle.utf8.specs.Promise.{ReadCalls}
use Rattle.utf8.specs.Callers.{Given, was_read, was_ill_formed, was_too_much, no_number_read}
use Rattle.std.specs.Prelude.{Ok, Err, MatchResult, IsErrAnd}
use Rattle.utf8.specs.declared.Utf8Error.TheVariants as reading
use Rattle.answers.specs.Values.{name_values}
use Rattle.name_bytes.specs.declared.NameBytesError.{NameBytesError}
use Rattle.name_bytes.specs.declared.NameBytesError.TheVariants.{IllFormed, Refused}
use Rattle.name_bytes.specs.Wiping.{Wiped}
use Rattle.name_bytes.specs.NameBytes.{beside, name_bytes_values, name_bytes_call, NameBytesCalls}

-- what refusals 1 to 3 say of an input that is too long
abbrev long : List ℕ → ℕ → Verdict Table
long words work = on_some (parse words) (λ t. cond (ltb work least_work) (refused 2 0) (refused 3 0)) (refused 1 0)

long_admitted : (words : List ℕ) (work : ℕ) (name : List ℕ) → most_input < length name → admitted words work name ≡ long words work
unfolding admitted
long_admitted words work name h = go (parse words)
  where
    go : (o : Option Table)
        → on_some o
        (λ t.
        cond (ltb work least_work) (refused 2 0)
        (cond (ltb most_input (length name)) (refused 3 0)
        (on_some (place_with (λ c. not (is_scalar c)) 0 name) (refused 4) (accepted t))))
        (refused 1 0) ≡ on_some o (λ t. cond (ltb work least_work) (refused 2 0) (refused 3 0)) (refused 1 0)
    go none = refl
    go (some t) = rw (lt-ltb most_input (length name) h)

long_refused : (words : List ℕ) (work : ℕ) → (n : ℕ) × (long words work ≡ refused n 0)
long_refused words work = go (parse words) (ltb work least_work)
  where
    go : (o : Option Table) (b : Bool)
        → (n : ℕ) × ◌≡◌ {A = Verdict Table} (on_some o (λ t. cond b (refused 2 0) (refused 3 0)) (refused 1 0)) (refused n 0)
    go none b = (1, refl)
    go (some t) true = (2, refl)
    go (some t) false = (3, refl)

-- the name call on an input that 1 to 4 refuse
refused_call : (setting : ℕ) (words name : List ℕ) (room work n p : ℕ) → admitted words work name ≡ refused n p
    → name_call setting words name room work ≡ record { values = beside n p; answer = replicate room 0; work = replicate work 0 }
unfolding name_call
refused_call setting words name room work n p e = rw e

-- two inputs that are too long are answered alike
pub long_alike : (setting : ℕ) (words a b : List ℕ) (room work : ℕ) → most_input < length a → most_input < length b
    → name_call setting words a room work ≡ name_call setting words b room work
long_alike setting words a b room work h k =
    let r = long_refused words work in
    refused_call setting words a room work r.0 0 (long_admitted words work a h ∙ r.1)
    ∙ sym (refused_call setting words b room work r.0 0 (long_admitted words work b k ∙ r.1))

-- the array before the reader and after it (')
module _ (bytes codepoints codepoints' : List ℕ) where
  -- n codepoints, which stand in the array
  pub read-room : (n : ℕ) → ReadCalls bytes codepoints codepoints' (Ok n) → n ≤ length codepoints'
  read-room n told = let g = was_read bytes codepoints codepoints' n told in omega (arith, g.fits, g.long)

  module _ (setting : ℕ) (words before after work work' : List ℕ) where
    pub read_named : (n : ℕ) → ReadCalls bytes codepoints codepoints' (Ok n) → (r : Result AcceptedName Refusal)
        → NameCalls setting words (take n codepoints') before after work work' r → (r' : Result AcceptedName NameBytesError)
        → name_bytes_values r' ≡ name_values r → NameBytesCalls setting words bytes before after work work' r'
    unfolding name_bytes_call
    read_named n told r h r' e = let g = was_read bytes codepoints codepoints' n told in rw (e, g.is, ← g.front) h

    -- more codepoints than the array has words
    pub over_named : length codepoints ≡ most_input + 1 → ReadCalls bytes codepoints codepoints' (Err reading.TooLittleRoom) → (r : Result AcceptedName Refusal)
        → NameCalls setting words codepoints' before after work work' r → (r' : Result AcceptedName NameBytesError)
        → name_bytes_values r' ≡ name_values r → NameBytesCalls setting words bytes before after work work' r'
    unfolding name_bytes_call
    over_named l told r h r' e =
        let g = was_too_much bytes codepoints codepoints' told in
        let zeros : length codepoints' ≡ length codepoints = rw g.zeros (length-replicate (length codepoints) 0) in
        let alike = long_alike setting words g.text codepoints' (length before) (length work) (omega (arith, g.over)) (omega arith) in
        rw (e, g.is, alike) h

    -- 30
    pub read_refused : (at : ℕ) → ReadCalls bytes codepoints codepoints' (Err (reading.IllFormed at)) → after ≡ replicate (length before) 0
        → work' ≡ replicate (length work) 0 → NameBytesCalls setting words bytes before after work work' (Err (IllFormed at))
    unfolding name_bytes_call
    read_refused at told y z = rw (was_ill_formed bytes codepoints codepoints' at told) (record { values = refl; answer = y; cleared = z })

-- the reader names no number
pub not_read : (bytes codepoints codepoints' : List ℕ) (at : ℕ) → ReadCalls bytes codepoints codepoints' (Err (reading.NotScalar at)) → ⊥
not_read bytes codepoints codepoints' at told = no_number_read bytes codepoints codepoints' at told

-- the answer of the name call, its refusal as one of this call
pub handed_on : (r : Result AcceptedName Refusal) (r' : Result AcceptedName NameBytesError)
    → MatchResult r (λ x. r' ≡ Ok x) (λ e. IsErrAnd r' (λ y. y ≡ Refused e)) → name_bytes_values r' ≡ name_values r
handed_on (Ok name) r' e = rw e refl
handed_on (Err f) (Err y) e = rw e refl
handed_on (Err f) (Ok x) e = absurd e

-- a word of an array that was cleared
pub wiped : (before after : List ℕ) (i : ℕ) → after ≡ replicate (length before) 0 → i < length before → Wiped before after (get_or after i 0)
wiped before after i e h = record { zeros = e; none = rw e (get_or-replicate (length before) i 0 0 h) }
