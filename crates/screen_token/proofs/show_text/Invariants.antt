-- `show_text`: after each turn the words so far are shown.
use Rattle.screen_token.proofs.TokenLaws.{Texting}
use Rattle.screen_token.proofs.show_text.Given as goal

abbrev pub invariant-loop-i : goal.invariant-loop-i
invariant-loop-i l = Texting l.initial.w l.w l.n l.i
