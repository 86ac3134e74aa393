-- What the program finds between two sheets, as document 02's tests.
use Rattle.std.specs.Prelude.{ℕ, ◌≡◌, false, ◌||◌, List}
use Rattle.rules.specs.Ranges.{differ_elsewhere, differ_at_zero_hours, crossed}
use Rattle.comparing.specs.declared.Comparison.{Comparison}

-- "27, sheets differ elsewhere, or in the first engine of a run-in sheet", and "28, a low above its high, after 27"
pub record Compares (w : ℕ) (low high : List ℕ) (c : Comparison) : Type 0 where
  pub differing : c.differs ≡ differ_elsewhere w low high || differ_at_zero_hours w low high
  pub crossing : c.differs ≡ false → c.crosses ≡ crossed w low high
