-- `read_table`: what unpacking promises, for a file that is not too long.
use Rattle.table_file.proofs.TableFile.{table_too_long, table-read}
use Rattle.table_file.proofs.read_table.Goals as goal

pub returns-then-file-gt-MOST_FILE : goal.returns-then-file-gt-MOST_FILE
returns-then-file-gt-MOST_FILE c = table_too_long _ _ _ c.if-file-gt-MOST_FILE.true c.clear.ensures

pub returns : goal.returns
returns c =
    let start = c in
    table-read _ _ _ c.if-file-gt-MOST_FILE.false start.requires _ c.unpack.ensures
