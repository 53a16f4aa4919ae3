-- `check_length`: 42, 43, or the form.
use mathlib.Core.Path.{◌∙◌}
use Rattle.book_forms.proofs.FileableLaws.{empty_form, long_form, short_form}
use Rattle.book_forms.proofs.check_length.Goals as goal

pub returns-then-n-eq0 : goal.returns-then-n-eq0
returns-then-n-eq0 c = λ form e. empty_form form (e ∙ c.if-n-eq0.true)

pub returns-then-n-gt-FORM : goal.returns-then-n-gt-FORM
returns-then-n-gt-FORM c = λ form e. long_form form (rw (← e) at c.if-n-eq0.false) (rw (← e) at c.if-n-gt-FORM.true)

pub returns : goal.returns
returns c = λ form e. short_form form (rw (← e) at c.if-n-eq0.false) (rw (← e) at c.if-n-gt-FORM.false)
