-- 02, Item 12: "Files that use it have version 4 (unpacked like 3)": a file of version 4 gives the words of the file of version 3 with the same bytes
-- behind the version, and the same refusals.
use Rattle.std.specs.Prelude.{ℕ, ◌≡◌, refl, List, ◌∷◌}
use Rattle.file_words.specs.FileWords.{file_words}
use Rattle.unpack.specs.Unpack.{unpack_call}

pub words_like_3 : (rest : List ℕ) → file_words (4 ∷ rest) ≡ file_words (3 ∷ rest)
unfolding file_words
words_like_3 rest = refl

-- the whole call: what it answers, and every word of the buffer
pub unpacked_like_3 : (rest : List ℕ) (room : ℕ) → unpack_call (4 ∷ rest) room ≡ unpack_call (3 ∷ rest) room
unfolding unpack_call
unpacked_like_3 rest room = refl
