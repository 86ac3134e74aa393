-- What was counted are the engines among the first k records.
use Rattle.arithmetic.proofs.Basics.{◌≡◌, ◌≤◌}
use Rattle.explaining.specs.Explanation.{engines_in}
use Rattle.explaining.proofs.engines_through.Given as goal

abbrev pub invariant-loop-k : goal.invariant-loop-k
invariant-loop-k l = (l.engines ≤ l.k) × (l.engines ≡ engines_in l.sheet l.k)
