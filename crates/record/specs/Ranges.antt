-- What a record and a measurement that are read must lie within.
use Rattle.std.specs.Prelude.{ℕ, ◌+◌, ◌*◌, ◌≤◌}
use Rattle.rules.specs.Sheet.{size}

-- record k, of w pollutants, of n bytes is whole
pub record RecordRange (w k n : ℕ) : Type 0 where
  pub inside : size w * k + size w ≤ n

-- and has a measurement of pollutant p
pub record MeasurementRange (w k p n : ℕ) : Type 0 where
  pub inside : size w * k + size w ≤ n
  pub measured : p ≤ w
