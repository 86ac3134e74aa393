-- What was counted is the number of the engines passed that have the cause.
use Rattle.arithmetic.proofs.Basics.{◌≤◌, ◌≡◌}
use Rattle.layout.specs.Sizes.{width_is}
use Rattle.causes.specs.Causes.{equal_causes_lem}
use Rattle.causes.proofs.equal_causes.Given as goal

abbrev pub invariant-loop-k : goal.invariant-loop-k
invariant-loop-k l = (l.count ≤ l.k) × (l.count ≡ equal_causes_lem (width_is l.sheet.size) l.sheet.bytes.now l.k l.cause)
