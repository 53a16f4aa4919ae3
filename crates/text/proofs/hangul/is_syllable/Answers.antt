-- `hangul::is_syllable` meets its contract.
use lib.Dec.{leb-suc-suc}
use Rattle.text.proofs.hangul.is_syllable.Goals as goal

pub returns : goal.returns
returns c = rw (leb-suc-suc c.args.c 55203) c.between.ensures
