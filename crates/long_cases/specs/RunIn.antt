-- Document 02, F-2, in plan 5's row 31: 2000, then fifteen times 4000, 1000, on each side of its pass line by one unit of the run-in value.
-- `series-hold` is the computed check.
use Rattle.std.specs.Prelude.{◌≡◌, refl, [], ◌∷◌, ◌++◌, map, ℕ}
use Rattle.rules.specs.Logarithm.{squarings}
use Rattle.rules.specs.Sheet.{pollutants}
use Rattle.rules.specs.Series.{Answer}
use Rattle.rules.specs.Operations.{judge}
use Rattle.cases.specs.Bytes.{pollutant, ran_in, measured, times}
use Rattle.cases.specs.Judged.{judged}
use Rattle.cases.specs.Table.{one}

-- the sheet with that run-in value, judged
judged_with : ℕ → Answer
judged_with v = judge pollutants squarings (pollutant 1 5 2000 0 ++ ran_in v ++ measured 2000 ++ times 15 (measured 4000 ++ measured 1000))

series-hold : map judged_with (2006 ∷ 2007 ∷ []) ≡ one 1 31 1 1 31 ∷ one 0 31 0 0 0 ∷ []
unfolding judged_with judged
series-hold = refl
