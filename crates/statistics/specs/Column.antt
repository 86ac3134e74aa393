-- A pollutant's column as the program goes down it: the second form of the law's `column_of`, by running sums.
-- proofs/Going shows it equal.
use Rattle.std.specs.Prelude.{ℕ, ◌≡◌, true, List, map, length, take}
use Rattle.rules.specs.Logarithm.{Correction, squarings}
use Rattle.rules.specs.Sheet.{measurement}
use Rattle.rules.specs.Plans as rules
use Rattle.rules.specs.Series as series
use Rattle.accepted.specs.Sheets.{pollutants_in, run_ins_in, engines_in}
use Rattle.columns.specs.Columns.{column_of}
use Rattle.plan.specs.declared.Plan.{Plan}
use Rattle.plan.specs.Plan.{plan_is}
use Rattle.rows.specs.declared.Row.{Row}
use Rattle.rows.specs.Row.{row_is}
use Rattle.rows.specs.Sums as sums
use Rattle.decisions.specs.declared.Decision.{Decision}
use Rattle.decisions.specs.Decisions.{decision_is, is_declared}

-- the decision of the pollutant p, its limit L and its deviation t, after the first n rows of the bytes b of w pollutants
abbrev pub column_is : (w : ℕ) → Plan → List ℕ → (p L t n : ℕ) → series.Decision
column_is w plan b p L t n =
    column_of (plan_is plan) (pollutants_in w b) (run_ins_in w b) squarings (engines_in w b) (record { number = p; limit = L; deviation = t }) n

-- what a declared pollutant's column answers
pub record ColumnIs (w : ℕ) (plan : Plan) (b : List ℕ) (p L t n : ℕ) (d : Decision) : Type 0 where
  pub decides : decision_is d ≡ column_is w plan b p L t n
  pub declared : is_declared d ≡ true

-- its measurements in the first n engines
abbrev pub measurements_of_lem : (w : ℕ) → List ℕ → (p n : ℕ) → List ℕ
measurements_of_lem w b p n = map (λ r. measurement r p) (take n (engines_in w b))

-- ---- plans 1, 2, 4 and 5: a row from the sums

-- the sums of the n measurements xs, and what the correction and the limit L add to each logarithm and take away
pub record SumsOf (L : ℕ) (c : Correction) (xs : List ℕ) (n sum squares gain level : ℕ) : Type 0 where
  pub count : n ≡ length xs
  pub sum_is : sum ≡ sums.sum_g squarings xs
  pub squares_is : squares ≡ sums.squares_g squarings xs
  pub gain_is : gain ≡ sums.gain squarings c
  pub level_is : level ≡ sums.level squarings L c

-- what row n says of whatever measurements have these sums
abbrev pub RowFrom : Plan → (n sum squares gain level t : ℕ) → Row → Type 0
RowFrom plan n sum squares gain level t r =
    (L : ℕ) (c : Correction) (xs : List ℕ) → SumsOf L c xs n sum squares gain level → row_is r ≡ rules.row (plan_is plan) squarings n L t c xs
