-- Document 02, F-11: in plan 4 "only row 3 is left open for gross emitters". Each of the checks is computed.
use Rattle.std.specs.Prelude.{ℕ, ◌≡◌, refl, List, [], ◌∷◌, ◌++◌, map, replicate}
use Rattle.rules.specs.Logarithm.{squarings}
use Rattle.rules.specs.Sheet.{pollutants}
use Rattle.rules.specs.Series.{pair, judgement}
use Rattle.rules.specs.Operations.{judge}
use Rattle.rules.specs.Sizes.{judge_sized}
use Rattle.cases.specs.Bytes.{pollutant, engine, measured, wide, six, times}
use Rattle.cases.specs.Judged.{judged}
use Rattle.cases.specs.Table.{Case, ◌↦→◌, one}

-- plan 4, pollutant 1 with the limit 1000, and a gross emitter of this cause
abbrev thousand : List ℕ
thousand = pollutant 1 4 1000 0

abbrev emitter : (cause : ℕ) → List ℕ
emitter c = engine c 1501 0 0 0

table : List Case
table =
    -- the two series of the request, which the release before it answered with another at 4
    (thousand ++ emitter 1 ++ emitter 2 ++ emitter 3 ++ emitter 4 ↦→ one 2 4 1 2 4)
    ∷ (thousand ++ emitter 1 ++ times 2 (measured 20) ++ emitter 2 ↦→ one 1 4 1 1 4)
    -- row 3 is open for a gross emitter at each of its three places; without one the same three measurements pass there
    ∷ (thousand ++ emitter 1 ++ times 2 (measured 20) ↦→ one 0 3 0 0 0)
    ∷ (thousand ++ measured 20 ++ emitter 1 ++ measured 20 ↦→ one 0 3 0 0 0)
    ∷ (thousand ++ times 2 (measured 20) ++ emitter 1 ↦→ one 0 3 0 0 0)
    ∷ (pollutant 1 2 1000 0 ++ measured 1501 ++ times 2 (measured 20) ↦→ one 1 3 1 1 3)
    -- and three gross emitters of different causes at the same measurement, which fail in plan 2
    ∷ (thousand ++ emitter 1 ++ emitter 2 ++ emitter 3 ↦→ one 0 3 0 0 0)
    ∷ (pollutant 1 2 1000 0 ++ times 3 (measured 1501) ↦→ one 2 3 1 2 3)
    -- row 4 with a gross emitter among the first three alone; with one newest, on each side of its pass line and of its fail line
    ∷ (thousand ++ emitter 1 ++ times 3 (measured 20) ↦→ one 1 4 1 1 4)
    ∷ (thousand ++ emitter 1 ++ times 2 (measured 48) ++ emitter 2 ↦→ one 1 4 1 1 4)
    ∷ (thousand ++ emitter 1 ++ times 2 (measured 49) ++ emitter 2 ↦→ one 0 4 0 0 0)
    ∷ (thousand ++ emitter 1 ++ emitter 2 ++ emitter 3 ++ engine 4 1712 0 0 0 ↦→ one 2 4 1 2 4)
    ∷ (thousand ++ emitter 1 ++ emitter 2 ++ emitter 3 ++ engine 4 1713 0 0 0 ↦→ one 0 4 0 0 0)
    -- each pollutant by its own statistics, whichever makes the gross emitter
    ∷ (thousand ++ pollutant 2 4 1000 0 ++ engine 1 1501 900 0 0 ++ engine 0 20 1200 0 0 ++ engine 0 20 900 0 0 ++ engine 2 1501 1200 0 0 ↦→ judgement 0 4 0 (pair 1 4 ∷ replicate 3 (pair 0 0)))
    -- "Equal cause and referral come first as before": equal cause at a row that would pass, and at row 3
    ∷ (thousand ++ emitter 1 ++ times 2 (measured 20) ++ emitter 1 ↦→ one 2 4 2 0 0)
    ∷ (thousand ++ emitter 1 ++ emitter 1 ++ measured 20 ↦→ one 2 3 2 0 0)
    -- "a decided series still keeps its decision when extended": by a vehicle of equal cause too
    ∷ (thousand ++ emitter 1 ++ times 2 (measured 20) ++ emitter 2 ++ emitter 2 ↦→ one 1 4 1 1 4)
    ∷ []

table-holds : map (λ c. judge pollutants squarings c.sheet) table ≡ map (λ c. c.answer) table
unfolding table judged
table-holds = refl

-- of 28-byte records: a gross emitter by pollutant 6 leaves row 3 open, and row 4 has its statistics
wide_table : List Case
wide_table =
    (wide (pollutant 6 4 1000 0) ++ six 1 0 0 0 0 0 1501 ++ times 2 (six 0 0 0 0 0 0 20) ↦→ judgement 0 3 0 (replicate 6 (pair 0 0)))
    ∷ (wide (pollutant 6 4 1000 0) ++ six 1 0 0 0 0 0 1501 ++ times 2 (six 0 0 0 0 0 0 20) ++ six 2 0 0 0 0 0 1501 ↦→ judgement 1 4 1 (replicate 5 (pair 0 0) ++ (pair 1 4 ∷ [])))
    ∷ []

wide-table-holds : map (λ c. judge_sized 28 squarings c.sheet) wide_table ≡ map (λ c. c.answer) wide_table
unfolding wide_table judged judge_sized
wide-table-holds = refl
