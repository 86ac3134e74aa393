-- While the loop goes on the column is open, its sums are those of the engines so far, and the four logarithms at hand are those that the
-- last row stands among.
use Rattle.layout.specs.Sizes.{width_is}
use Rattle.statistics.proofs.Summing.{Summed}
use Rattle.statistics.proofs.logarithms.column.Given as goal

abbrev pub invariant-loop-i : goal.invariant-loop-i
invariant-loop-i l =
    let s = l.sheet in
    Summed (width_is s.size) s.bytes.now s.start s.plan l.number l.limit l.deviation l.rows l.i l.logs l.gain l.level l.sum l.squares
