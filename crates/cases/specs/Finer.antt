-- Document 02, F-9: "Two analysts found different readings with equal logarithms." At sixteen squarings three engines at 9,000,010 have the
-- logarithm of their limit, 9,000,000, and pass; at twenty they have a higher one, and fail. The two checks are computed.
use Rattle.std.specs.Prelude.{ℕ, ◌≡◌, refl, List, [], ◌∷◌, ◌++◌, map}
use Rattle.rules.specs.Logarithm.{squarings, g}
use Rattle.rules.specs.Sheet.{pollutants}
use Rattle.rules.specs.Series.{Answer}
use Rattle.rules.specs.Operations.{judge}
use Rattle.cases.specs.Bytes.{pollutant, measured, times}
use Rattle.cases.specs.Judged.{judged}
use Rattle.cases.specs.Table.{one}

-- the limit, the last reading that has its logarithm also at twenty squarings, the next, and the reading of the request
readings : List ℕ
readings = 9000000 ∷ 9000001 ∷ 9000002 ∷ 9000010 ∷ []

readings-logarithms : map (λ x. g 16 x ∷ g squarings x ∷ []) readings
    ≡ (1513979 ∷ 24223671 ∷ []) ∷ (1513979 ∷ 24223671 ∷ []) ∷ (1513979 ∷ 24223672 ∷ []) ∷ (1513979 ∷ 24223673 ∷ []) ∷ []
unfolding readings judged
readings-logarithms = refl

-- three engines at a reading, under plan 2
three : (q x : ℕ) → Answer
three q x = judge pollutants q (pollutant 1 2 9000000 0 ++ times 3 (measured x))

abbrev passes : Answer
passes = one 1 3 1 1 3

abbrev fails : Answer
fails = one 2 3 1 2 3

readings-judged : map (λ x. three 16 x ∷ three squarings x ∷ []) readings
    ≡ (passes ∷ passes ∷ []) ∷ (passes ∷ passes ∷ []) ∷ (passes ∷ fails ∷ []) ∷ (passes ∷ fails ∷ []) ∷ []
unfolding readings three judged
readings-judged = refl
