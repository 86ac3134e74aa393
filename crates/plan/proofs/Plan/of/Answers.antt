-- Each number's plan is the definition's.
use Rattle.plan.proofs.Plans.{plan-of}
use Rattle.plan.proofs.Plan.of.Goals as goal

pub returns : goal.returns
returns c = rw (c.unwrap_or.ensures, c.try_from.ensures) (plan-of c.args.number)
