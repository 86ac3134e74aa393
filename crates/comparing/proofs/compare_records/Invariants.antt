-- Record by record: what was found so far.
use Rattle.layout.specs.Sizes.{width_is}
use Rattle.comparing.proofs.Walking.{Walked}
use Rattle.comparing.proofs.compare_records.Given as goal

abbrev pub invariant-loop-k : goal.invariant-loop-k
invariant-loop-k l = Walked (width_is l.fn.size) l.fn.low l.fn.high l.fn.run_in l.fn.start l.differs l.crosses l.k
