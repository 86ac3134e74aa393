-- Document 02, F-2: sheets with a record of kind 6, the first engine's values after running-in. Each of the checks is computed.
use Rattle.std.specs.Prelude.{ℕ, ◌≡◌, refl, List, [], ◌∷◌, ◌++◌, map, replicate}
use Rattle.rules.specs.Logarithm.{squarings}
use Rattle.rules.specs.Sheet.{pollutants}
use Rattle.rules.specs.Series.{pair, Answer, refusal, judgement}
use Rattle.rules.specs.Operations.{judge, evidence}
use Rattle.rules.specs.Sizes.{judge_sized, evidence_sized}
use Rattle.cases.specs.Bytes.{u32, pollutant, engine, measured, small_engine_lem, run_in_lem, ran_in, wide, six, six_run_in, stop, times}
use Rattle.cases.specs.Judged.{judged}
use Rattle.cases.specs.Table.{Case, ◌↦→◌, one}

-- plan 3, pollutant 1 with the limit 100
abbrev hundred : List ℕ
hundred = pollutant 1 3 100 0

-- a record of kind 5 that stands well where particulates are not declared
abbrev small : List ℕ
small = small_engine_lem 0 0 19980930

-- a record of kind 6 with these bytes 1 to 3, and a value for pollutant 1 alone
abbrev marked : (b₁ b₂ b₃ v : ℕ) → List ℕ
marked b₁ b₂ b₃ v = (6 ∷ b₁ ∷ b₂ ∷ b₃ ∷ []) ++ u32 v ++ replicate 12 0

-- ---- judging

-- two pollutants under plan 3, each with its own value after running-in and its own first measurement
abbrev two_run_in : List ℕ
two_run_in = pollutant 2 3 100 0 ++ pollutant 4 3 150 0 ++ run_in_lem 0 90 0 60 ++ engine 0 0 100 0 40 ++ times 2 (engine 0 0 111 0 100)

table : List Case
table =
    -- plan 3, "attributes compare x_j × value with L × x_1": 111 × 90 is at most 100 × 100, 112 × 90 is above
    (hundred ++ ran_in 90 ++ measured 100 ++ measured 110 ++ times 2 (measured 111) ↦→ one 1 4 1 1 4)
    ∷ (hundred ++ ran_in 90 ++ measured 100 ++ measured 110 ++ measured 111 ++ measured 112 ↦→ one 0 4 0 0 0)
    -- the first engine is corrected too: with 101 after running-in, 100 counts as 101; with 100 it counts as it is
    ∷ (hundred ++ ran_in 101 ++ times 3 (measured 100) ↦→ one 2 3 1 2 3)
    ∷ (hundred ++ ran_in 100 ++ times 4 (measured 100) ↦→ one 1 4 1 1 4)
    -- plan 1, limit 4000, three at 4000: with 2000 after running-in as three at 2000, and with 8000 as three at 8000
    ∷ (pollutant 1 1 4000 625020 ++ ran_in 2000 ++ times 3 (measured 4000) ↦→ one 1 3 1 1 3)
    ∷ (pollutant 1 1 4000 625021 ++ ran_in 2000 ++ times 3 (measured 4000) ↦→ one 0 3 0 0 0)
    ∷ (pollutant 1 1 4000 440186 ++ ran_in 8000 ++ times 3 (measured 4000) ↦→ one 2 3 1 2 3)
    ∷ (pollutant 1 1 4000 440187 ++ ran_in 8000 ++ times 3 (measured 4000) ↦→ one 0 3 0 0 0)
    -- plans 2 and 5, W 0: the greatest value that passes is the limit. Then W not 0, and the greatest value that passes
    ∷ (pollutant 1 2 4000 0 ++ ran_in 4000 ++ times 3 (measured 8000) ↦→ one 1 3 1 1 3)
    ∷ (pollutant 1 2 4000 0 ++ ran_in 4001 ++ times 3 (measured 8000) ↦→ one 2 3 1 2 3)
    ∷ (pollutant 1 5 4000 0 ++ ran_in 4000 ++ times 3 (measured 8000) ↦→ one 1 3 1 1 3)
    ∷ (pollutant 1 5 4000 0 ++ ran_in 4001 ++ times 3 (measured 8000) ↦→ one 2 3 1 2 3)
    ∷ (pollutant 1 2 4000 0 ++ ran_in 2538 ++ measured 4000 ++ measured 2000 ++ measured 8000 ↦→ one 1 3 1 1 3)
    ∷ (pollutant 1 2 4000 0 ++ ran_in 2539 ++ measured 4000 ++ measured 2000 ++ measured 8000 ↦→ one 0 3 0 0 0)
    ∷ (pollutant 1 5 4000 0 ++ ran_in 2538 ++ measured 4000 ++ measured 2000 ++ measured 8000 ↦→ one 1 3 1 1 3)
    ∷ (pollutant 1 5 4000 0 ++ ran_in 2539 ++ measured 4000 ++ measured 2000 ++ measured 8000 ↦→ one 0 3 0 0 0)
    -- each by its own: 111 × 90 is at most 100 × 100, and 100 × 60 at most 150 × 40; 101 × 60 is above
    ∷ (two_run_in ++ engine 0 0 111 0 100 ↦→ judgement 1 4 1 (pair 0 0 ∷ pair 1 4 ∷ pair 0 0 ∷ pair 1 4 ∷ []))
    ∷ (two_run_in ++ engine 0 0 111 0 101 ↦→ judgement 0 4 0 (pair 0 0 ∷ pair 1 4 ∷ pair 0 0 ∷ pair 0 0 ∷ []))
    -- a sheet may end with it; a stop straight after it; behind a small engine
    ∷ (hundred ++ ran_in 90 ↦→ one 0 0 0 0 0)
    ∷ (hundred ++ ran_in 90 ++ stop ↦→ one 2 0 3 0 0)
    ∷ (hundred ++ small ++ ran_in 90 ++ times 4 (measured 100) ↦→ one 1 4 1 1 4)
    ∷ []

table-holds : map (λ c. judge pollutants squarings c.sheet) table ≡ map (λ c. c.answer) table
unfolding table judged
table-holds = refl

-- ---- refusals

-- as many records as there may be, 39, are these with run-in values: four pollutants, a small engine, 32 engines and a stop
abbrev many_with : (behind : List ℕ) → List ℕ
many_with behind =
    pollutant 1 2 1000 0 ++ pollutant 2 2 1000 0 ++ pollutant 3 2 1000 0 ++ pollutant 4 2 150 0 ++ small_engine_lem 700 3000 19980930
    ++ behind ++ times 32 (engine 0 1000 1000 1000 150) ++ stop

refusals : List Case
refusals =
    -- 1, "The record limit rises by one.": 39 records have room, and 40 are refused by their length; 38 as before, and 39 with a record after
    -- the stop
    (many_with (run_in_lem 1000 1000 1000 150) ↦→ judgement 1 3 1 (replicate 4 (pair 1 3)))
    ∷ (many_with (run_in_lem 1000 1000 1000 150) ++ stop ↦→ refusal 1 0)
    ∷ (many_with [] ↦→ judgement 1 3 1 (replicate 4 (pair 1 3)))
    ∷ (many_with [] ++ stop ↦→ refusal 3 38)
    -- 2: 4 and 7 are no kinds
    ∷ (hundred ++ (4 ∷ replicate 19 0) ↦→ refusal 2 1)
    ∷ (hundred ++ (7 ∷ replicate 19 0) ↦→ refusal 2 1)
    -- 3, before 19: kind 6 first, and after a stop, where it is the second or behind an engine too
    ∷ (ran_in 90 ↦→ refusal 3 0)
    ∷ (hundred ++ stop ++ ran_in 90 ↦→ refusal 3 2)
    ∷ (hundred ++ ran_in 90 ++ stop ++ ran_in 90 ↦→ refusal 3 3)
    ∷ (hundred ++ measured 100 ++ stop ++ ran_in 90 ↦→ refusal 3 3)
    -- 3: kind 1 after it
    ∷ (hundred ++ ran_in 90 ++ pollutant 2 3 100 0 ↦→ refusal 3 2)
    -- 16: kind 5 after it, and before 17
    ∷ (hundred ++ ran_in 90 ++ small ↦→ refusal 16 2)
    ∷ (hundred ++ ran_in 90 ++ small_engine_lem 0 0 0 ↦→ refusal 16 2)
    ∷ (hundred ++ ran_in 90 ++ small ++ ran_in 90 ↦→ refusal 16 2)
    -- 19: a second, also behind an engine; one after an engine; one in plan 4, also behind a gross emitter
    ∷ (hundred ++ ran_in 90 ++ ran_in 90 ↦→ refusal 19 2)
    ∷ (hundred ++ small ++ ran_in 90 ++ ran_in 90 ↦→ refusal 19 3)
    ∷ (hundred ++ ran_in 90 ++ measured 100 ++ ran_in 90 ↦→ refusal 19 3)
    ∷ (hundred ++ measured 100 ++ ran_in 90 ↦→ refusal 19 2)
    ∷ (pollutant 1 4 100 0 ++ ran_in 90 ↦→ refusal 19 1)
    ∷ (pollutant 1 4 100 0 ++ engine 7 151 0 0 0 ++ ran_in 90 ↦→ refusal 19 2)
    -- 19, before 8 and 12
    ∷ (hundred ++ ran_in 90 ++ ran_in 0 ↦→ refusal 19 2)
    ∷ (hundred ++ measured 100 ++ marked 1 0 0 90 ↦→ refusal 19 2)
    ∷ (pollutant 1 4 100 0 ++ marked 0 0 1 10000000 ↦→ refusal 19 1)
    -- 8, "as they read an engine": out of range, missing, not zero of a pollutant that is not declared; before 12
    ∷ (hundred ++ ran_in 0 ↦→ refusal 8 1)
    ∷ (hundred ++ ran_in 1 ↦→ one 0 0 0 0 0)
    ∷ (hundred ++ ran_in 9999999 ↦→ one 0 0 0 0 0)
    ∷ (hundred ++ ran_in 10000000 ↦→ refusal 8 1)
    ∷ (hundred ++ pollutant 2 3 100 0 ++ ran_in 90 ↦→ refusal 8 2)
    ∷ (hundred ++ run_in_lem 90 1 0 0 ↦→ refusal 8 1)
    ∷ (hundred ++ run_in_lem 90 0 0 1 ↦→ refusal 8 1)
    ∷ (hundred ++ marked 1 0 0 0 ↦→ refusal 8 1)
    -- 12, "bytes 1-3 are zero": each of them, where 9 would ask bytes 2 and 3 of an engine
    ∷ (hundred ++ marked 1 0 0 90 ↦→ refusal 12 1)
    ∷ (hundred ++ marked 0 1 0 90 ↦→ refusal 12 1)
    ∷ (hundred ++ marked 0 0 1 90 ↦→ refusal 12 1)
    -- 9 and 10 of the engines behind it, as before
    ∷ (hundred ++ ran_in 90 ++ engine 7 100 0 0 0 ↦→ refusal 9 2)
    ∷ (hundred ++ ran_in 90 ++ times 20 (measured 100) ↦→ refusal 10 21)
    ∷ []

refusals-hold : map (λ c. judge pollutants squarings c.sheet) refusals ≡ map (λ c. c.answer) refusals
unfolding refusals judged
refusals-hold = refl

-- ---- lowering

-- two sheets, alike in all but the measurements, none higher in the second, and the first engine's the lower; and what judging answers for each
record Lowered : Type 0 where
  first : Case
  second : Case

-- "lowering keeps its meaning there if the first engine's zero-hour values are the same in both sheets", and is false where they fall: the
-- first passes at n, and the second does not, or it fails
lowerings : List Lowered
lowerings =
    record {
      first = pollutant 1 3 1 0 ++ ran_in 1 ++ measured 2 ++ measured 1 ++ measured 1 ++ measured 2 ↦→ one 1 4 1 1 4;
      second = pollutant 1 3 1 0 ++ ran_in 1 ++ measured 1 ++ measured 1 ++ measured 1 ++ measured 2 ↦→ one 0 4 0 0 0;
    }
    ∷ record {
      first = pollutant 1 3 1 0 ++ ran_in 1 ++ measured 2 ++ times 4 (measured 2) ↦→ one 1 4 1 1 4;
      second = pollutant 1 3 1 0 ++ ran_in 1 ++ measured 1 ++ times 4 (measured 2) ↦→ one 2 5 1 2 5;
    }
    ∷ record {
      first = pollutant 1 1 4000 625020 ++ ran_in 2000 ++ measured 4000 ++ times 2 (measured 4000) ↦→ one 1 3 1 1 3;
      second = pollutant 1 1 4000 625020 ++ ran_in 2000 ++ measured 2000 ++ times 2 (measured 4000) ↦→ one 0 3 0 0 0;
    }
    ∷ []

zero-hours-needed : map (λ l. judge pollutants squarings l.first.sheet ∷ judge pollutants squarings l.second.sheet ∷ []) lowerings
    ≡ map (λ l. l.first.answer ∷ l.second.answer ∷ []) lowerings
unfolding lowerings judged
zero-hours-needed = refl

-- ---- 28-byte records

-- pollutants 1 and 6 under plan 3, and after them what pollutants 2 and 4 had above
abbrev two_wide : List ℕ
two_wide = wide hundred ++ wide (pollutant 6 3 150 0)

abbrev two_wide_run_in : List ℕ
two_wide_run_in = two_wide ++ six_run_in 90 0 0 0 0 60 ++ six 0 100 0 0 0 0 40 ++ times 2 (six 0 111 0 0 0 0 100)

-- pollutant 5 under plan 1 with the limit 4000 and this deviation, 2000 after running-in and three at 4000
abbrev fifth : (deviation : ℕ) → List ℕ
fifth t = wide (pollutant 5 1 4000 t) ++ six_run_in 0 0 0 0 2000 0 ++ times 3 (six 0 0 0 0 0 4000 0)

-- an answer in which no pollutant is decided
abbrev none_decided : (verdict engine grounds : ℕ) → Answer
none_decided v n grounds = judgement v n grounds (replicate 6 (pair 0 0))

wide_table : List Case
wide_table =
    -- the same answers
    (wide hundred ++ wide (ran_in 90) ++ wide (measured 100) ++ wide (measured 110) ++ times 2 (wide (measured 111))
    ↦→ judgement 1 4 1 (pair 1 4 ∷ replicate 5 (pair 0 0)))
    ∷ (wide hundred ++ wide (ran_in 90) ↦→ none_decided 0 0 0)
    ∷ (wide hundred ++ wide (ran_in 90) ++ wide stop ↦→ none_decided 2 0 3)
    -- pollutants 5 and 6 by theirs
    ∷ (two_wide_run_in ++ six 0 111 0 0 0 0 100 ↦→ judgement 1 4 1 (pair 1 4 ∷ replicate 4 (pair 0 0) ++ (pair 1 4 ∷ [])))
    ∷ (two_wide_run_in ++ six 0 111 0 0 0 0 101 ↦→ judgement 0 4 0 (pair 1 4 ∷ replicate 5 (pair 0 0)))
    ∷ (fifth 625020 ↦→ judgement 1 3 1 (replicate 4 (pair 0 0) ++ (pair 1 3 ∷ pair 0 0 ∷ [])))
    ∷ (fifth 625021 ↦→ none_decided 0 3 0)
    -- 19, 8 and 12
    ∷ (wide hundred ++ wide (ran_in 90) ++ wide (ran_in 90) ↦→ refusal 19 2)
    ∷ (wide hundred ++ wide (measured 100) ++ wide (ran_in 90) ↦→ refusal 19 2)
    ∷ (wide (pollutant 6 4 100 0) ++ six_run_in 0 0 0 0 0 90 ↦→ refusal 19 1)
    ∷ (two_wide ++ wide (ran_in 90) ↦→ refusal 8 2)
    ∷ (wide hundred ++ six_run_in 90 0 0 0 1 0 ↦→ refusal 8 1)
    ∷ (wide hundred ++ six_run_in 90 0 0 0 0 1 ↦→ refusal 8 1)
    ∷ (wide hundred ++ wide (marked 1 0 0 90) ↦→ refusal 12 1)
    ∷ (wide hundred ++ wide (marked 0 0 1 90) ↦→ refusal 12 1)
    ∷ []

wide-table-holds : map (λ c. judge_sized 28 squarings c.sheet) wide_table ≡ map (λ c. c.answer) wide_table
unfolding wide_table judged judge_sized
wide-table-holds = refl

-- ---- evidence counts the record: of six engines, the part through the fourth's, with a small engine and without, at both sizes

evidence-counts : evidence pollutants squarings (hundred ++ ran_in 90 ++ times 6 (measured 100)) ≡ hundred ++ ran_in 90 ++ times 4 (measured 100)
unfolding judged evidence
evidence-counts = refl

evidence-counts-both : evidence pollutants squarings (hundred ++ small ++ ran_in 90 ++ times 6 (measured 100))
    ≡ hundred ++ small ++ ran_in 90 ++ times 4 (measured 100)
unfolding judged evidence
evidence-counts-both = refl

wide-evidence-counts : evidence_sized 28 squarings (wide hundred ++ wide small ++ wide (ran_in 90) ++ times 6 (wide (measured 100)))
    ≡ wide hundred ++ wide small ++ wide (ran_in 90) ++ times 4 (wide (measured 100))
unfolding judged evidence evidence_sized
wide-evidence-counts = refl
