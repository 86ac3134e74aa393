-- A vehicle without a cause repeats none, nor does a pending one, and any other one that was counted.
use Rattle.arithmetic.proofs.Basics.{refl}
use Rattle.causes.specs.Causes.{repeats_by}
use Rattle.causes.proofs.repeats.Goals as goal

pub returns-then-cause : goal.returns-then-cause
unfolding repeats_by
returns-then-cause c = rw c.if-cause.true refl

pub returns : goal.returns
unfolding repeats_by
returns c = rw (c.if-cause.false, c.equal_causes.ensures) refl
