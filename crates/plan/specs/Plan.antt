-- The program's plan as the definitions'.
use Rattle.std.specs.Prelude.{ℕ, cond, eqb, Result, Ok, Err}
use Rattle.rules.specs.Plans as rules
use Rattle.refusals.specs.declared.Reason.{Reason}
use Rattle.refusals.specs.declared.Reason.TheVariants as reason
use Rattle.plan.specs.declared.Plan.{Plan}
use Rattle.plan.specs.declared.Plan.TheVariants.{KnownDeviation, UnknownDeviation, Attributes, InService, Corrected}

abbrev pub plan_is : Plan → rules.Plan
plan_is KnownDeviation = rules.known_deviation_lem
plan_is UnknownDeviation = rules.unknown_deviation_lem
plan_is Attributes = rules.attributes
plan_is InService = rules.in_service_lem
plan_is Corrected = rules.corrected

-- the plan of a number, 1 to 5
abbrev pub plan_named : (n : ℕ) → Result Plan Reason
plan_named n =
    cond (eqb n 1) (Ok KnownDeviation)
    (cond (eqb n 2) (Ok UnknownDeviation)
    (cond (eqb n 3) (Ok Attributes)
    (cond (eqb n 4) (Ok InService)
    (cond (eqb n 5) (Ok Corrected) (Err reason.Plan)))))
