-- In plans 1 to 3 and 5 no row ends the series before its statistics.
use Rattle.arithmetic.proofs.Basics.{arith}
use Rattle.accepted.proofs.Sheets.{last-most, rows_fit}
use Rattle.plan.specs.Plan.{plan_is}
use Rattle.causes.proofs.Gating.{not-in-service, plain_before, plain-gate}
use Rattle.causes.proofs.gate_of.Goals as goal

pub overflow_cast-rows : goal.overflow_cast-rows
overflow_cast-rows c = omega (arith, rows_fit c.args.sheet.accepted, last-most (plan_is c.args.sheet.plan), c.requires.all)

pub returns-in_default : goal.returns-in_default
returns-in_default c = plain-gate _ (plan_is c.args.sheet.plan) _ _ (plain_before _ (not-in-service c.args.sheet.plan c.in_default.not-InService) _)
