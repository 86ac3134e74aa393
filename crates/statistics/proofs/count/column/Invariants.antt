-- While the loop goes on the column is open, and the place is that of the next measurement.
use Rattle.layout.specs.Sizes.{width_is}
use Rattle.statistics.proofs.Counting.{Counted}
use Rattle.statistics.proofs.count.column.Given as goal

abbrev pub invariant-loop-i : goal.invariant-loop-i
invariant-loop-i l = let s = l.sheet in Counted (width_is s.size) s.bytes.now s.start l.number l.limit l.rows l.i l.at l.over
