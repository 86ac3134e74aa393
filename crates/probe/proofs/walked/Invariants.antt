-- The reader has been moved on at most k times, and stands at a record or at the end.
use Rattle.arithmetic.proofs.Basics.{◌-◌, ◌≤◌, length}
use Rattle.rules.specs.Sizes.{records_sized}
use Rattle.probe.proofs.walked.Given as goal

abbrev pub invariant-loop-at : goal.invariant-loop-at
invariant-loop-at l = (l.at ≤ l.k) × (l.at ≤ length (records_sized l.size l.sheet))

abbrev pub decreases-loop-at : goal.decreases-loop-at
decreases-loop-at l = l.k - l.at
