-- What the loop over the declared pollutants keeps.
use Rattle.rules.specs.Plans.{plan_of}
use Rattle.tally.proofs.Looping.{Kept}
use Rattle.tally.proofs.judgement_of.Given as goal

abbrev pub invariant-loop-k : goal.invariant-loop-k
invariant-loop-k l = Kept l.size l.bytes l.declared (plan_of l.said.plan) l.gate l.k l.t
