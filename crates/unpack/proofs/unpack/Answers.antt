-- `unpack`: each return is one law of an answer.
use native.Mathlib.Omega.{arith}
use Rattle.file_words.specs.Promise.{Holds}
use Rattle.unpack.proofs.Answer.{holds_rest, found-words, file_refused, room_refused, words_put}
use Rattle.unpack.proofs.unpack.Goals as goal
use Rattle.unpack.proofs.unpack.Goals.{After-copy_words-arg-2-1, After-slice_known-2-1, After-slice_known-3-1, After-slice_known-then-count-answer-1, Else-count-answer, In-Ok}

-- the file has so many words, once the match has said so
found : (c : In-Ok) → Holds c.args.file.now c.in-Ok.count
found c = found-words _ _ _ c.in-Ok.is c.inspect.ensures

-- the file has so many words, once the match has said so
found-at-After-slice_known-then-count-answer-1 : (c : After-slice_known-then-count-answer-1) → Holds c.args.file.now c.in-Ok.count
found-at-After-slice_known-then-count-answer-1 c = found-words _ _ _ c.in-Ok.is c.inspect.ensures

-- the file has so many words, once the match has said so
found-at-Else-count-answer : (c : Else-count-answer) → Holds c.args.file.now c.in-Ok.count
found-at-Else-count-answer c = found-words _ _ _ c.in-Ok.is c.inspect.ensures

-- the file has so many words, once the match has said so
found-at-After-copy_words-arg-2-1 : (c : After-copy_words-arg-2-1) → Holds c.args.file.now c.in-Ok.count
found-at-After-copy_words-arg-2-1 c = found-words _ _ _ c.in-Ok.is c.inspect.ensures

-- the file has so many words, once the match has said so
found-at-After-slice_known-2-1 : (c : After-slice_known-2-1) → Holds c.args.file.now c.in-Ok.count
found-at-After-slice_known-2-1 c = found-words _ _ _ c.in-Ok.is c.inspect.ensures

-- the file has so many words, once the match has said so
found-at-After-slice_known-3-1 : (c : After-slice_known-3-1) → Holds c.args.file.now c.in-Ok.count
found-at-After-slice_known-3-1 c = found-words _ _ _ c.in-Ok.is c.inspect.ensures

pub returns-in-Err : goal.returns-in-Err
returns-in-Err c = file_refused _ _ c.in-Err.is c.inspect.ensures c.clear.ensures

pub overflow_sub-held : goal.overflow_sub-held
overflow_sub-held c = omega (arith, (found c).long)

pub returns-then-count-answer : goal.returns-then-count-answer
returns-then-count-answer c =
    let s = c in
    room_refused _ (found-at-After-slice_known-then-count-answer-1 s) c.if-count-answer.true c.clear-then-count-answer.ensures

pub slice_bounds-copy_words-count : goal.slice_bounds-copy_words-count
slice_bounds-copy_words-count c = omega (arith, found-at-Else-count-answer c)

pub slice_bounds-copy_words-start : goal.slice_bounds-copy_words-start
slice_bounds-copy_words-start c = slice_bounds-copy_words-count c

pub copy_words-requires : goal.copy_words-requires
copy_words-requires c =
    let rest = holds_rest _ _ (found-at-After-copy_words-arg-2-1 c) in
    record { whole = omega (arith, rest); room = omega (arith, rest, (found-at-After-copy_words-arg-2-1 c).sum) }

pub slice_bounds-clear-count : goal.slice_bounds-clear-count
slice_bounds-clear-count c = omega (arith, (found-at-After-slice_known-2-1 c).sum)

pub slice_bounds-clear-start : goal.slice_bounds-clear-start
slice_bounds-clear-start c = omega (arith, (found-at-After-slice_known-2-1 c).sum)

pub returns : goal.returns
returns c =
    let s = c in
    words_put _ _ _ _ _ (found-at-After-slice_known-3-1 s) s.if-count-answer.false c.copy_words.ensures c.clear-2.ensures
