-- Each of the four numbers goes its own way through the loop, as the one of `log2` does.
use Rattle.logarithm.proofs.Bounds.{At}
use Rattle.logarithm.proofs.log2_four.Given as goal

abbrev pub invariant-loop : goal.invariant-loop
invariant-loop l = At l.initial.a l.counter l.a × At l.initial.b l.counter l.b × At l.initial.c l.counter l.c × At l.initial.d l.counter l.d
