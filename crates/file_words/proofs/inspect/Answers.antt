-- `inspect`: each return is one law of a file's words.
use Prim.Native.Nat.{◌≤◌}
use native.Mathlib.Omega.{arith}
use mathlib.Core.Path.{◌≡◌}
use mathlib.Core.Option.{some}
use lib.ListN.{get_or}
use Rattle.file_versions.specs.Versions.{lacks}
use Rattle.file_versions.proofs.VersionLaws.{lack_given, lack_none, lacks_few}
use Rattle.file_words.proofs.File.{file_empty, file_version, file_short, file_length, file_words_lem}
use Rattle.file_words.proofs.inspect.Goals as goal

pub returns-then-file-eq0 : goal.returns-then-file-eq0
returns-then-file-eq0 c = file_empty _ (omega arith)

pub returns-in_default : goal.returns-in_default
returns-in_default c = file_version _ (omega arith) (lack_none (get_or c.args.file.now 0 0) _ c.in_default.is c.lack_of.ensures)

pub returns-then-file-lt5 : goal.returns-then-file-lt5
returns-then-file-lt5 c =
    file_short _ _ (omega arith) ((let it : lacks (get_or c.args.file.now 0 0) ≡ some c.in-Some.lack = lack_given (get_or c.args.file.now 0 0) _ _ c.in-Some.is c.lack_of.ensures in it))

pub returns-then-file-from : goal.returns-then-file-from
returns-then-file-from c =
    file_length _ _ _ (omega arith) ((let it : lacks (get_or c.args.file.now 0 0) ≡ some c.in-Some.lack = lack_given (get_or c.args.file.now 0 0) _ _ c.in-Some.is c.lack_of.ensures in it)) c.be32-count.ensures (rw c.from.ensures at c.if-file-from.true)

pub overflow_add-result : goal.overflow_add-result
overflow_add-result c =
    omega (arith, (let it : c.in-Some.lack ≤ 2 = lacks_few (get_or c.args.file.now 0 0) _ ((let it : lacks (get_or c.args.file.now 0 0) ≡ some c.in-Some.lack = lack_given (get_or c.args.file.now 0 0) _ _ c.in-Some.is c.lack_of.ensures in it)) in it))

pub returns : goal.returns
returns c =
    file_words_lem _ _ _ (omega arith) ((let it : lacks (get_or c.args.file.now 0 0) ≡ some c.in-Some.lack = lack_given (get_or c.args.file.now 0 0) _ _ c.in-Some.is c.lack_of.ensures in it)) c.be32-count.ensures (rw c.from.ensures at c.if-file-from.false)
