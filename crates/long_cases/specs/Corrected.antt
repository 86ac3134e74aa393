-- Document 02, F-6: the reason for plan 5. Series on each side of its pass line in rows 31 and 32, and the same sheets under plan 2: those
-- that pass are answered otherwise there. `series-hold` and `series-hold-printed` are the computed checks: one alone would take more steps
-- than a check may.
use Rattle.std.specs.Prelude.{ℕ, ◌≡◌, refl, List, [], ◌∷◌, ◌++◌, map}
use Rattle.rules.specs.Logarithm.{squarings}
use Rattle.rules.specs.Sheet.{pollutants}
use Rattle.rules.specs.Series.{Answer}
use Rattle.rules.specs.Operations.{judge}
use Rattle.cases.specs.Bytes.{pollutant, measured, times}
use Rattle.cases.specs.Judged.{judged}
use Rattle.cases.specs.Table.{one}

-- engines of limit 2000, with what judging them answers under plan 5 and under plan 2
record Series : Type 0 where
  engines : List ℕ
  corrected : Answer
  printed : Answer

abbrev pairs_of : ℕ → List ℕ
pairs_of n = times n (measured 4000 ++ measured 1000)

-- row 31: an engine, then fifteen times 4000, 1000
abbrev thirty_one : ℕ → List ℕ
thirty_one x = measured x ++ pairs_of 15

-- row 32: fifteen times 4000, 1000, then 4000 and an engine
abbrev thirty_two : ℕ → List ℕ
thirty_two x = pairs_of 15 ++ measured 4000 ++ measured x

series : List Series
series =
    -- "2000, then fifteen times 4000, 1000: plan 2 another at 31, plan 5 passes at 31"
    record { engines = thirty_one 2000; corrected = one 1 31 1 1 31; printed = one 0 31 0 0 0 }
    -- the largest that passes at 31, and the next
    ∷ record { engines = thirty_one 2199; corrected = one 1 31 1 1 31; printed = one 0 31 0 0 0 }
    ∷ record { engines = thirty_one 2200; corrected = one 0 31 0 0 0; printed = one 0 31 0 0 0 }
    -- "Sixteen times 4000, 1000: plan 2 fails at 32, plan 5 passes at 32"
    ∷ record { engines = thirty_two 1000; corrected = one 1 32 1 1 32; printed = one 2 32 1 2 32 }
    -- the largest that passes at 32, and the next
    ∷ record { engines = thirty_two 2330; corrected = one 1 32 1 1 32; printed = one 2 32 1 2 32 }
    ∷ record { engines = thirty_two 2331; corrected = one 2 32 1 2 32; printed = one 2 32 1 2 32 }
    ∷ []

-- the engines, judged under the plan of a number
judged_by : ℕ → Series → Answer
judged_by p s = judge pollutants squarings (pollutant 1 p 2000 0 ++ s.engines)

series-hold : map (judged_by 5) series ≡ map (λ s. s.corrected) series
unfolding judged_by series judged
series-hold = refl

series-hold-printed : map (judged_by 2) series ≡ map (λ s. s.printed) series
unfolding judged_by series judged
series-hold-printed = refl
