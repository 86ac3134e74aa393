-- The squarings of m, so many of them done.
use Rattle.logarithm.proofs.Bounds.{At}
use Rattle.logarithm.proofs.log2.Given as goal

abbrev pub invariant-loop : goal.invariant-loop
invariant-loop l = At l.initial.x l.counter l.x
