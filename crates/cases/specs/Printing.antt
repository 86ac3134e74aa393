-- Document 01, "Series that stand on a line": what `verdict` prints for its example, and for a refusal.
use Rattle.std.specs.Prelude.{ℕ, ◌≡◌, refl, List, [], ◌∷◌, ◌++◌, map}
use Rattle.rules.specs.Logarithm.{squarings}
use Rattle.rules.specs.Sheet.{pollutants}
use Rattle.rules.specs.Printed as lines
use Rattle.cases.specs.Bytes.{pollutant, engine, times}
use Rattle.cases.specs.Judged.{judged}

sheets : List (List ℕ)
sheets =
    -- "Plan 3, pollutant 4, L 150, four engines at 140"
    (pollutant 4 3 150 0 ++ times 4 (engine 0 0 0 0 140))
    -- refusal 10 of record 20
    ∷ (pollutant 1 3 150 0 ++ times 20 (engine 0 150 0 0 0))
    ∷ []

-- "pass 4 1", "4 pass 4"; "refused 10 20"
printed-lines : map (lines.printed pollutants squarings) sheets
    ≡ (112 ∷ 97 ∷ 115 ∷ 115 ∷ 32 ∷ 52 ∷ 32 ∷ 49 ∷ 10 ∷ 52 ∷ 32 ∷ 112 ∷ 97 ∷ 115 ∷ 115 ∷ 32 ∷ 52 ∷ 10 ∷ [])
    ∷ (114 ∷ 101 ∷ 102 ∷ 117 ∷ 115 ∷ 101 ∷ 100 ∷ 32 ∷ 49 ∷ 48 ∷ 32 ∷ 50 ∷ 48 ∷ 10 ∷ [])
    ∷ []
unfolding sheets judged lines.last_digits lines.decimal lines.printed
printed-lines = refl
