-- The same of a tested sheet.
use Rattle.std.specs.Prelude.{ℕ, ◌≡◌}
use Rattle.layout.specs.Sizes.{width_is}
use Rattle.plan.specs.declared.Plan.{Plan}
use Rattle.plan.specs.declared.Plan.TheVariants.{Attributes}
use Rattle.decisions.specs.declared.Decision.{Decision}
use Rattle.corrections.specs.declared.factors.Correction.{Correction}
use Rattle.tested.specs.declared.TestedSheet.{TestedSheet}
use Rattle.statistics.specs.Column.{ColumnIs}
use Rattle.statistics.specs.Ranges.{CorrectedRange, LogarithmsRange}

abbrev pub DecidesIn : TestedSheet → Plan → (p L t rows : ℕ) → Decision → Type 0
DecidesIn s plan p L t rows d = ColumnIs (width_is s.size) plan s.bytes.now p L t rows d

-- plan 3, which has no use for a deviation: 0 stands there
pub record CountsIn (s : TestedSheet) (p L : ℕ) (k : Correction) (rows : ℕ) : Type 0 where
  pub counts : s.plan ≡ Attributes
  pub corrected : CorrectedRange (width_is s.size) s.bytes.now Attributes p L k 0 rows

-- the other plans, and the plan of the table
pub record LogarithmsIn (s : TestedSheet) (p L : ℕ) (k : Correction) (t rows : ℕ) (plan : Plan) : Type 0 where
  pub logarithms_range : LogarithmsRange (width_is s.size) s.bytes.now s.plan p L k t rows
  pub own : plan ≡ s.plan
