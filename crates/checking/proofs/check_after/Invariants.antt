-- One pass over the records, up to the first that has a fault.
use Rattle.rules.specs.Sheet.{records}
use Rattle.layout.specs.Sizes.{width_is}
use Rattle.checking.proofs.Progress.{Progress}
use Rattle.checking.proofs.check_after.Given as goal

abbrev pub invariant-loop-k : goal.invariant-loop-k
invariant-loop-k l = Progress l.fn.size l.fn.before l.fn.first (records (width_is l.fn.size) l.fn.bytes) l.k l.summary
