-- The same of the program's columns.
use Rattle.std.specs.Prelude.{ℕ, ◌≤◌, ◌<◌, List}
use Rattle.layout.specs.Sizes.{width_is}
use Rattle.logarithm.specs.Four.{Measured}
use Rattle.fours.specs.Fours.{measured_or, four_from, Logs}
use Rattle.fours.specs.declared.measured.MeasuredColumn.{MeasuredColumn}

abbrev pub measured_in : MeasuredColumn → (i : ℕ) → ℕ
measured_in c i = measured_or (width_is c.size) c.bytes.now c.start c.number c.rows i

abbrev pub four_in : MeasuredColumn → (first i : ℕ) → List ℕ
four_in c first i = four_from (width_is c.size) c.bytes.now c.start c.number first c.rows i

abbrev pub LogsIn : (logs : List ℕ) → MeasuredColumn → (n : ℕ) → Type 0
LogsIn logs c n = Logs logs (width_is c.size) c.bytes.now c.start c.number c.rows n

-- a four: a number in range, and the three engines behind i engines of the column
pub record FourRange (first : ℕ) (c : MeasuredColumn) (i : ℕ) : Type 0 where
  pub number : Measured first
  pub some : i ≤ c.rows

-- the next row: the four at hand is the one that row i stands in, and the column has an engine behind i engines
pub record NextRange (logs : List ℕ) (c : MeasuredColumn) (i : ℕ) : Type 0 where
  pub last : LogsIn logs c i
  pub some : i < c.rows
