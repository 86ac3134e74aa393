-- What a tested sheet's type says of it.
use Rattle.std.specs.Prelude.{◌≡◌}
use Rattle.accepted.specs.Sheets.{AcceptedSheet}
use Rattle.layout.specs.Sizes.{width_is}
use Rattle.plan.specs.declared.Plan.{Plan}
use Rattle.plan.specs.Plan.{plan_is}
use Rattle.tested.specs.declared.TestedSheet.{TestedSheet}

-- it is accepted, and of the plan that it is known to have
pub of-plan : (s : TestedSheet) {plan : Plan} → s.plan ≡ plan → AcceptedSheet (width_is s.size) s.bytes.now (plan_is plan) s.start
of-plan s e = rw e at s.accepted
