-- The test is the definition's, part by part.
use Rattle.arithmetic.proofs.Basics.{refl}
use Rattle.rules.specs.Refusals.{bad_length_lem}
use Rattle.checking.proofs.check_length.Goals as goal

pub returns-then-n-left_over : goal.returns-then-n-left_over
unfolding bad_length_lem
returns-then-n-left_over c = rw (← c.longest.ensures, ← c.left_over.ensures, c.if-n-left_over.true) refl

pub returns : goal.returns
unfolding bad_length_lem
returns c = rw (← c.longest.ensures, ← c.left_over.ensures, c.if-n-left_over.false) refl
