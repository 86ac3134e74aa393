-- Refusal 9 by what the program keeps of the records before one; faults/proofs/Agreement: it is document 01's.
use Rattle.std.specs.Prelude.{ℕ, ◌*◌, Bool, false, not, ◌&&◌, ◌||◌, cond, ltb, eqb}
use Rattle.rules.specs.Tools.{within}
use Rattle.rules.specs.Sheet.{Record, cause, is_pending, measurement}
use Rattle.rules.specs.Refusals.{greatest_cause}
use Rattle.rules.specs.Plans.{in_service_lem, number_of}
use Rattle.layout.specs.declared.Size.{Size}
use Rattle.layout.specs.declared.Size.TheVariants.{Twenty, TwentyEight}
use Rattle.pollutants.specs.declared.Each.{Each}
use Rattle.summary.specs.declared.Summary.{Summary}

-- "2x > 3L", of a declared pollutant
abbrev pub exceeds : (limit x : ℕ) → Bool
exceeds limit x = not (eqb limit 0) && ltb (3 * limit) (2 * x)

abbrev pub exceeds_behind_lem : Size → (limits : Each ℕ) → Record → Bool
exceeds_behind_lem Twenty limits r = false
exceeds_behind_lem TwentyEight limits r = exceeds limits.fifth (measurement r 5) || exceeds limits.sixth (measurement r 6)

unfoldable pub gross_by : Size → (limits : Each ℕ) → Record → Bool
gross_by z limits r =
    exceeds limits.co (measurement r 1)
    || exceeds limits.hc (measurement r 2)
    || exceeds limits.nox (measurement r 3)
    || exceeds limits.pm (measurement r 4)
    || exceeds_behind_lem z limits r

unfoldable pub bad_cause_by : Size → Summary → Record → Bool
bad_cause_by z s r =
    cond (eqb s.plan (number_of in_service_lem) && gross_by z s.limits r) (not (within 1 greatest_cause (cause r) || is_pending (cause r)))
    (not (eqb (cause r) 0))
