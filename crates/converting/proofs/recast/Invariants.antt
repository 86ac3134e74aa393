-- A record at a time: what is written so far, and behind it what the output held.
use Rattle.layout.specs.Sizes.{width_is}
use Rattle.converting.proofs.Steps.{Reached}
use Rattle.converting.proofs.recast.Given as goal

abbrev pub invariant-loop-k : goal.invariant-loop-k
invariant-loop-k l = Reached (width_is l.fn.size) l.fn.added l.fn.sheet l.fn.output l.k l.output
