-- Refusal 8 by the limits that the program keeps; faults/proofs/Declared: it is document 01's.
use Rattle.std.specs.Prelude.{ℕ, Bool, false, not, ◌||◌, cond, eqb}
use Rattle.rules.specs.Tools.{within}
use Rattle.rules.specs.Logarithm.{greatest}
use Rattle.rules.specs.Sheet.{Record, measurement}
use Rattle.pollutants.specs.declared.Each.{Each}
use Rattle.layout.specs.declared.Size.{Size}
use Rattle.layout.specs.declared.Size.TheVariants.{Twenty, TwentyEight}

-- a limit of 0 stands for an undeclared pollutant
abbrev pub bad_value_by : (limit x : ℕ) → Bool
bad_value_by limit x = cond (not (eqb limit 0)) (not (within 1 greatest x)) (not (eqb x 0))

unfoldable pub bad_measurement_by : (limits : Each ℕ) → Record → Bool
bad_measurement_by limits r =
    bad_value_by limits.co (measurement r 1)
    || bad_value_by limits.hc (measurement r 2)
    || bad_value_by limits.nox (measurement r 3)
    || bad_value_by limits.pm (measurement r 4)

-- of pollutants 5 and 6
abbrev pub bad_behind_lem : Size → (limits : Each ℕ) → Record → Bool
bad_behind_lem Twenty limits r = false
bad_behind_lem TwentyEight limits r = bad_value_by limits.fifth (measurement r 5) || bad_value_by limits.sixth (measurement r 6)
