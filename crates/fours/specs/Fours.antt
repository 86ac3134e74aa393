-- The logarithms of a column in fours. Row n's stands in place n % 4 of four number n / 4; place 0 of the first four is the limit's.
use Rattle.std.specs.Prelude.{ℕ, ◌+◌, ◌*◌, ◌/◌, ◌%◌, ◌≤◌, ◌<◌, ◌≡◌, cond, List, [], ◌∷◌, ltb, length, get_or}
use Rattle.rules.specs.Logarithm.{squarings, g}
use Rattle.rules.specs.Sheet.{size, measurement}
use Rattle.accepted.specs.Sheets.{record_at_lem}
use Rattle.logarithm.specs.Four.{Measured}

module _ (w : ℕ) (b : List ℕ) (start p : ℕ) where
  -- the measurement in the engine behind i engines
  abbrev pub measured_at : (i : ℕ) → ℕ
  measured_at i = measurement (record_at_lem w b (start + i)) p

  -- the same, and 1 behind the rows
  unfoldable pub measured_or : (rows i : ℕ) → ℕ
  measured_or rows i = cond (ltb i rows) (measured_at i) 1

  -- the logarithms of a number and of the three engines behind i engines
  abbrev pub four_from : (first rows i : ℕ) → List ℕ
  four_from first rows i =
      g squarings first ∷ g squarings (measured_or rows i) ∷ g squarings (measured_or rows (i + 1)) ∷ g squarings (measured_or rows (i + 2)) ∷ []

-- the four that row n stands in, as far as there are rows
pub record Logs (logs : List ℕ) (w : ℕ) (b : List ℕ) (start p rows n : ℕ) : Type 0 where
  pub room : length logs ≡ 4
  pub each : (k : ℕ) → (k + 1) / 4 ≡ n / 4 → k < rows → get_or logs ((k + 1) % 4) 0 ≡ g squarings (measured_at w b start p k)

-- the engines of all rows lie in the bytes and have a measurement of the pollutant, and their measurements are 1 to 9,999,999
pub record MeasuredRange (w : ℕ) (b : List ℕ) (start p rows : ℕ) : Type 0 where
  pub column : p ≤ w
  pub inside : size w * (start + rows) ≤ length b
  pub few : start + rows < 1000
  pub measures : (i : ℕ) → i < rows → Measured (measured_at w b start p i)
