-- A sheet with no bytes, or the check's answer.
use Rattle.arithmetic.proofs.Basics.{eq-eqb, ne_eqb, ap}
use Rattle.std.specs.Prelude.{Ok}
use Rattle.checking.specs.Check.{so_far}
use Rattle.checking.proofs.so_far.Goals as goal

pub returns-then-sheet-eq0 : goal.returns-then-sheet-eq0
unfolding so_far
returns-then-sheet-eq0 c = rw (eq-eqb _ _ c.if-sheet-eq0.true) (ap Ok c.nothing.ensures)

pub returns : goal.returns
unfolding so_far
returns c = rw (ne_eqb _ _ c.if-sheet-eq0.false) c.check_sheet.ensures
