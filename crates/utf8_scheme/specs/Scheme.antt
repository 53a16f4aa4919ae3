-- UTF-8 (RFC 3629). Its section 3 gives the octets of a character number by its range, with the bits of the number in place of the x:
--
--     Char. number range  |        UTF-8 octet sequence
--        (hexadecimal)    |              (binary)
--     --------------------+---------------------------------------------
--     0000 0000-0000 007F | 0xxxxxxx
--     0000 0080-0000 07FF | 110xxxxx 10xxxxxx
--     0000 0800-0000 FFFF | 1110xxxx 10xxxxxx 10xxxxxx
--     0001 0000-0010 FFFF | 11110xxx 10xxxxxx 10xxxxxx 10xxxxxx
--
-- "The definition of UTF-8 prohibits encoding character numbers between U+D800 and U+DFFF". Reading is the only inverse of this. Assumes
-- nothing.
use Rattle.std.specs.Prelude.{ℕ, zero, suc, ◌+◌, ◌-◌, ◌*◌, ◌/◌, ◌%◌, Bool, not, ◌&&◌, cond, List, [], ◌∷◌, length, get_or, take, ltb}
use Rattle.std.proofs.Math.Option.{Option}
use Rattle.lists.specs.Lists.{first_with, place_with, joined_map, on_some, same_list}
use Rattle.answers.specs.Verdict.{Verdict, accepted, refused, next}
use Rattle.scalar.specs.Scalar.{is_scalar}

-- "10xxxxxx": a tail octet, with the six lowest bits of n
abbrev pub tail : ℕ → ℕ
tail n = 0x80 + n % 0x40

-- the octets of a scalar value: "Determine the number of octets required from the character number and the first column of the table";
-- "Start by putting the lowest-order bit of the character number in the lowest-order position of the last octet of the sequence"
unfoldable pub octets : ℕ → List ℕ
octets c =
    cond (ltb c 0x80) (c ∷ [])
    (cond (ltb c 0x800) ((0xC0 + c / 0x40) ∷ tail c ∷ [])
    (cond (ltb c 0x10000) ((0xE0 + c / 0x1000) ∷ tail (c / 0x40) ∷ tail c ∷ [])
    ((0xF0 + c / 0x40000) ∷ tail (c / 0x1000) ∷ tail (c / 0x40) ∷ tail c ∷ [])))

-- the bytes start with the octets of the scalar value c
unfoldable pub starts_with : List ℕ → ℕ → Bool
unfolding octets
starts_with bs c = is_scalar c && same_list (octets c) (take (length (octets c)) bs)

-- the numbers that the bits marked x spell, if the first one, two, three or four bytes are taken for a sequence, whatever their other bits
unfoldable pub spelled : List ℕ → List ℕ
spelled bs =
    let a = get_or bs 0 0 in
    let b = get_or bs 1 0 % 0x40 in
    let c = get_or bs 2 0 % 0x40 in
    let d = get_or bs 3 0 % 0x40 in
    (a % 0x80) ∷ (a % 0x20 * 0x40 + b) ∷ ((a % 0x10 * 0x40 + b) * 0x40 + c) ∷ (((a % 0x8 * 0x40 + b) * 0x40 + c) * 0x40 + d) ∷ []

-- The scalar value whose octets start the bytes. There is at most one, and no other number has to be tried (Inverse.antt): an overlong form
-- is not the octets of the number that it spells, and neither is a sequence with a byte that is missing or has another mark.
unfoldable pub first : List ℕ → Option ℕ
unfolding starts_with spelled
first bs = first_with (starts_with bs) (spelled bs)

-- The codepoints of the bytes from place `at` on, of which `skip` belong to a sequence that was read. "bytes that start no sequence, overlong
-- forms, surrogates, numbers over 10FFFF and cut sequences are refused as 30 with the byte index where the bad sequence starts"
unfoldable pub read_from : ℕ → ℕ → List ℕ → Verdict (List ℕ)
unfolding first octets
read_from at skip [] = accepted []
read_from at (suc skip) (b ∷ bs) = read_from (suc at) skip bs
read_from at zero (b ∷ bs) =
    on_some (first (b ∷ bs)) (λ c. next (read_from (suc at) (length (octets c) - 1) bs) (λ cs. accepted (c ∷ cs))) (refused 30 at)

-- "a reader from bytes to codepoints"
unfoldable pub read : List ℕ → Verdict (List ℕ)
unfolding read_from
read bs = read_from 0 0 bs

-- "and a writer back": "The writer refuses a surrogate or a number over 10FFFF as 4, with its index"
unfoldable pub write : List ℕ → Verdict (List ℕ)
unfolding octets
write cs = on_some (place_with (λ c. not (is_scalar c)) 0 cs) (refused 4) (accepted (joined_map octets cs))
