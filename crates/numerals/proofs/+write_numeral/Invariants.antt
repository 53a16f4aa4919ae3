use Rattle.numerals.proofs.+write_numeral.Given as goal

abbrev pub decreases-write_numeral : goal.decreases-write_numeral
decreases-write_numeral l = l.n
