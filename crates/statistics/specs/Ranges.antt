-- What the numbers of a column keep to.
use Rattle.std.specs.Prelude.{ℕ, ◌*◌, ◌^◌, ◌≤◌, ◌≡◌, Bool, true, false, List, length}
use Rattle.rules.specs.Sheet.{declares}
use Rattle.rules.specs.Plans as rules
use Rattle.rules.specs.Refusals.{greatest_deviation}
use Rattle.accepted.specs.Sheets.{pollutants_in, engines_in}
use Rattle.columns.specs.Columns.{rows_of}
use Rattle.causes.specs.Causes.{gate_of_lem}
use Rattle.corrections.specs.declared.Correction.{Correction}
use Rattle.corrections.specs.Corrections.{Corrects}
use Rattle.logarithm.specs.Four.{Measured}
use Rattle.plan.specs.declared.Plan.{Plan}
use Rattle.plan.specs.Plan.{plan_is}

-- a logarithm is below 24 × 2^20
abbrev pub highest : ℕ
highest = 24 * 2 ^ 20

-- plan 3 takes none
abbrev pub takes_logarithms : rules.Plan → Bool
takes_logarithms rules.known_deviation_lem = true
takes_logarithms rules.unknown_deviation_lem = true
takes_logarithms rules.attributes = false
takes_logarithms rules.in_service_lem = true
takes_logarithms rules.corrected = true

-- a row with statistics of a plan that takes logarithms: the sums, what is added to each logarithm and taken away, and the deviation
pub record RowRange (plan : Plan) (n sum squares gain level t : ℕ) : Type 0 where
  pub logs : takes_logarithms (plan_is plan) ≡ true
  pub least : 3 ≤ n
  pub most : n ≤ rules.last_row_lem (plan_is plan)
  pub most-of-all : n ≤ 32
  pub sum-most : sum ≤ 32 * highest
  pub squares-most : n * squares ≤ 32 * (32 * (highest * highest))
  pub spread : sum * sum ≤ n * squares
  pub gained-most : n * gain ≤ 32 * highest
  pub level-most : level ≤ 2 * highest
  pub taken-most : n * level ≤ 64 * highest
  pub deviation-most : t ≤ greatest_deviation

-- a declared pollutant of a tested sheet, and rows none of which ends the series before its statistics
pub record ColumnRange (w : ℕ) (b : List ℕ) (plan : Plan) (p L t rows : ℕ) : Type 0 where
  pub declared : declares (pollutants_in w b) p ≡ true
  pub limit : Measured L
  pub deviation : t ≤ greatest_deviation
  pub inside : rows ≤ rows_of (gate_of_lem w (plan_is plan) b (length (engines_in w b)))

-- the same with a row or more to look at, and the pollutant's correction
pub record CorrectedRange (w : ℕ) (b : List ℕ) (plan : Plan) (p L : ℕ) (c : Correction) (t rows : ℕ) : Type 0 where
  pub column : ColumnRange w b plan p L t rows
  pub least : 3 ≤ rows
  pub corrects : Corrects w b p c

-- the same of a plan that takes logarithms
pub record LogarithmsRange (w : ℕ) (b : List ℕ) (plan : Plan) (p L : ℕ) (c : Correction) (t rows : ℕ) : Type 0 where
  pub corrected : CorrectedRange w b plan p L c t rows
  pub logs : takes_logarithms (plan_is plan) ≡ true
