-- Document 01, "Series that stand on a line", a sheet for each refusal, and two series on which two C libraries' logarithms disagree.
-- `table-holds` is the computed check: judging each sheet gives the answer beside it.
use Rattle.std.specs.Prelude.{ℕ, ◌≡◌, refl, List, [], ◌∷◌, ◌++◌, map, replicate}
use Rattle.rules.specs.Logarithm.{squarings, g}
use Rattle.rules.specs.Sheet.{pollutants}
use Rattle.rules.specs.Series.{pair, Answer, refusal, judgement}
use Rattle.rules.specs.Operations.{judge}
use Rattle.cases.specs.Bytes.{pollutant, engine, measured, stop, times}
use Rattle.cases.specs.Judged.{judged}

-- * 02, F-9: "The starred values of g are worked out anew": of 1, 2, 3 and 1000; then the highest, and 0 outside the range
logarithms : map (g squarings) (1 ∷ 2 ∷ 3 ∷ 1000 ∷ 9999999 ∷ 0 ∷ 10000000 ∷ []) ≡ 0 ∷ 1048576 ∷ 1661953 ∷ 10449882 ∷ 24383058 ∷ 0 ∷ 0 ∷ []
unfolding judged
logarithms = refl

-- a sheet and what judging answers for it
pub record Case : Type 0 where
  pub sheet : List ℕ
  pub answer : Answer

abbrev pub ◌↦→◌ : List ℕ → Answer → Case
b ↦→ a = record { sheet = b; answer = a }

infix 20 ◌↦→◌
-- an answer in which pollutant 1 alone may be decided
abbrev pub one : (verdict engine grounds decision decided_at : ℕ) → Answer
one v n grounds decision at = judgement v n grounds (pair decision at ∷ replicate 3 (pair 0 0))

table : List Case
table =
    -- * "Plan 1, L 4000, three at 2000: t 625,020 passes, 625,021 another"
    (pollutant 1 1 4000 625020 ++ times 3 (measured 2000) ↦→ one 1 3 1 1 3)
    ∷ (pollutant 1 1 4000 625021 ++ times 3 (measured 2000) ↦→ one 0 3 0 0 0)
    -- * "Three at 8000: t 440,186 fails, 440,187 another"
    ∷ (pollutant 1 1 4000 440186 ++ times 3 (measured 8000) ↦→ one 2 3 1 2 3)
    ∷ (pollutant 1 1 4000 440187 ++ times 3 (measured 8000) ↦→ one 0 3 0 0 0)
    -- * "Plan 2, L 4000: three at 4000 pass (W = 0). 4000, 4000, 2000: another."
    ∷ (pollutant 1 2 4000 0 ++ times 3 (measured 4000) ↦→ one 1 3 1 1 3)
    ∷ (pollutant 1 2 4000 0 ++ times 2 (measured 4000) ++ measured 2000 ↦→ one 0 3 0 0 0)
    -- * "Three at 8000 fail. 8000, 8000, 16000: another."
    ∷ (pollutant 1 2 4000 0 ++ times 3 (measured 8000) ↦→ one 2 3 1 2 3)
    ∷ (pollutant 1 2 4000 0 ++ times 2 (measured 8000) ++ measured 16000 ↦→ one 0 3 0 0 0)
    -- * "Plan 4, L 1000: 1500 is no gross emitter, 1501 is": cause 0 is right for the first, and refused for the second
    ∷ (pollutant 1 4 1000 0 ++ measured 1500 ↦→ one 0 1 0 0 0)
    ∷ (pollutant 1 4 1000 0 ++ measured 1501 ↦→ refusal 9 1)
    -- * "Causes 7 and 7 in three: fail, ground 2." "Causes 7 and 8: another."
    ∷ (pollutant 1 4 1000 0 ++ times 2 (engine 7 1501 0 0 0) ++ measured 900 ↦→ one 2 3 2 0 0)
    ∷ (pollutant 1 4 1000 0 ++ engine 7 1501 0 0 0 ++ engine 8 1501 0 0 0 ++ measured 900 ↦→ one 0 3 0 0 0)
    -- "Pollutants and no engine: another at 0; a stop straight after the pollutants: fail at 0, ground 3."
    ∷ (pollutant 1 1 4000 625020 ↦→ one 0 0 0 0 0)
    ∷ (pollutant 1 1 4000 625020 ++ stop ↦→ one 2 0 3 0 0)
    -- "Plan 3, pollutant 4, L 150, four engines at 140"
    ∷ (pollutant 4 3 150 0 ++ times 4 (engine 0 0 0 0 140) ↦→ judgement 1 4 1 (replicate 3 (pair 0 0) ++ (pair 1 4 ∷ [])))
    -- refusal 1: no bytes, not whole records, over 780 bytes; 38 and 39 records are refused by the 33rd engine
    ∷ ([] ↦→ refusal 1 0)
    ∷ (1 ∷ [] ↦→ refusal 1 0)
    ∷ (pollutant 1 1 4000 625020 ++ times 39 (measured 2000) ↦→ refusal 1 0)
    ∷ (pollutant 1 1 4000 625020 ++ times 38 (measured 2000) ↦→ refusal 10 33)
    ∷ (pollutant 1 1 4000 625020 ++ times 37 (measured 2000) ↦→ refusal 10 33)
    -- refusal 2, the first of many
    ∷ (replicate 20 9 ↦→ refusal 2 0)
    -- refusal 3: first record not kind 1, kind 1 after another, anything after kind 3
    ∷ (stop ↦→ refusal 3 0)
    ∷ (pollutant 1 3 150 0 ++ measured 1 ++ pollutant 2 3 150 0 ↦→ refusal 3 2)
    ∷ (pollutant 1 3 150 0 ++ stop ++ stop ↦→ refusal 3 2)
    -- refusals 4 to 7, of a pollutant
    ∷ (pollutant 2 3 150 0 ++ pollutant 2 3 150 0 ↦→ refusal 4 1)
    ∷ (pollutant 2 3 150 0 ++ pollutant 3 2 150 0 ↦→ refusal 5 1)
    ∷ (pollutant 1 6 150 0 ↦→ refusal 5 0)
    ∷ (pollutant 2 3 10000000 0 ↦→ refusal 6 0)
    ∷ (pollutant 2 1 10000 4000001 ↦→ refusal 7 0)
    -- refusals 8 to 10, of an engine
    ∷ (pollutant 2 2 10000 0 ++ measured 1 ↦→ refusal 8 1)
    ∷ (pollutant 1 4 10000 0 ++ engine 3 20 0 0 0 ↦→ refusal 9 1)
    ∷ (pollutant 1 3 150 0 ++ times 20 (measured 150) ↦→ refusal 10 20)
    -- refusal 11, of a stop; 12, of an engine
    ∷ (pollutant 1 4 10000 0 ++ stop ↦→ refusal 11 1)
    ∷ (pollutant 1 3 150 0 ++ 2 ∷ 1 ∷ replicate 18 0 ↦→ refusal 8 1)
    ∷ (pollutant 1 3 150 0 ++ 3 ∷ 1 ∷ replicate 18 0 ↦→ refusal 12 1)
    -- 02, F-6, plan 5, "otherwise as plan 2": no deviation, no cause, a last row of 32, and a stop
    ∷ (pollutant 1 5 150 1 ↦→ refusal 7 0)
    ∷ (pollutant 1 5 150 0 ++ engine 3 300 0 0 0 ↦→ refusal 9 1)
    ∷ (pollutant 1 5 150 0 ++ times 33 (measured 150) ↦→ refusal 10 33)
    ∷ (pollutant 1 5 150 0 ++ stop ↦→ one 2 0 3 0 0)
    -- two series of seven engines that one C library's logarithm passes at 7 and another's leaves open, each in its own way
    ∷ (pollutant 1 1 7244722 217432 ++ measured 6054011 ++ measured 7125279 ++ measured 7809388 ++ measured 7501976 ++ measured 5847897 ++ measured 5300524 ++ measured 6870023 ↦→ one 1 7 1 1 7)
    ∷ (pollutant 1 1 6273177 358586 ++ measured 5905477 ++ measured 5140553 ++ measured 6640553 ++ measured 6153108 ++ measured 3863460 ++ measured 4805799 ++ measured 5534779 ↦→ one 1 7 1 1 7)
    ∷ []

table-holds : map (λ c. judge pollutants squarings c.sheet) table ≡ map (λ c. c.answer) table
unfolding table judged
table-holds = refl
