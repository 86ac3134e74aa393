-- The plan of a number, of every number: of one that names none it is plan 1.
use Rattle.std.specs.Prelude.{ℕ, ◌≡◌, Bool, true, false, cond, eqb, Ok, Err}
use Rattle.std.specs.Result.{result_unwrap_or}
use Rattle.arithmetic.proofs.Basics.{refl}
use Rattle.rules.specs.Plans as rules
use Rattle.rules.specs.Plans.{plan_of}
use Rattle.refusals.specs.declared.Reason.TheVariants as reason
use Rattle.plan.specs.declared.Plan.TheVariants.{KnownDeviation, UnknownDeviation, Attributes, InService, Corrected}
use Rattle.plan.specs.Plan.{plan_is, plan_named}

by_tests : (a b c d e : Bool)
    → plan_is
    (result_unwrap_or (cond a (Ok KnownDeviation) (cond b (Ok UnknownDeviation) (cond c (Ok Attributes) (cond d (Ok InService) (cond e (Ok Corrected) (Err reason.Plan)))))) KnownDeviation)
    ≡ cond a rules.known_deviation_lem (cond b rules.unknown_deviation_lem (cond c rules.attributes (cond d rules.in_service_lem (cond e rules.corrected rules.known_deviation_lem))))
by_tests true b c d e = refl
by_tests false true c d e = refl
by_tests false false true d e = refl
by_tests false false false true e = refl
by_tests false false false false true = refl
by_tests false false false false false = refl

pub plan-of : (n : ℕ) → plan_is (result_unwrap_or (plan_named n) KnownDeviation) ≡ plan_of n
unfolding plan_of
plan-of n = by_tests (eqb n 1) (eqb n 2) (eqb n 3) (eqb n 4) (eqb n 5)
