-- The values in document 01's order.
use Rattle.arithmetic.proofs.Basics.{refl}
use Rattle.reporting.proofs.values.Goals as goal

pub returns : goal.returns
returns c =
    rw (c.numbers-verdict.ensures, ← c.pair-co.ensures, ← c.pair-hc.ensures, ← c.pair-nox.ensures)
    (rw (← c.pair-pm.ensures, ← c.pair-fifth.ensures, ← c.pair-sixth.ensures) refl)
