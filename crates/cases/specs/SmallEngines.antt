-- Document 02, F-1: dates, and sheets with a record of kind 5. Each of the checks is computed.
use Rattle.std.specs.Prelude.{ℕ, ◌≡◌, refl, Bool, true, false, List, [], ◌∷◌, ◌++◌, map, replicate}
use Rattle.rules.specs.Logarithm.{squarings}
use Rattle.rules.specs.Sheet.{pollutants}
use Rattle.rules.specs.Calendar.{is_day_lem}
use Rattle.rules.specs.Series.{pair, Answer, refusal, judgement}
use Rattle.rules.specs.Operations.{judge, evidence}
use Rattle.rules.specs.Sizes.{judge_sized, evidence_sized}
use Rattle.cases.specs.Bytes.{u32, pollutant, engine, measured, small_engine_lem, wide, stop, times}
use Rattle.cases.specs.Judged.{judged}
use Rattle.cases.specs.Table.{Case, ◌↦→◌, one}

-- ---- dates

-- "year × 10000 + month × 100 + day", and whether it is a day
record Date : Type 0 where
  written : ℕ
  is_one : Bool

abbrev ◌is◌ : ℕ → Bool → Date
n is b = record { written = n; is_one = b }

infix 20 ◌is◌
dates : List Date
dates =
    -- 28, 29 and 30 February: 1900 and 2100 are no leap years, 1996 and 2000 are
    (19000228 is true)
    ∷ (19000229 is false)
    ∷ (19000230 is false)
    ∷ (19960228 is true)
    ∷ (19960229 is true)
    ∷ (19960230 is false)
    ∷ (20000228 is true)
    ∷ (20000229 is true)
    ∷ (20000230 is false)
    ∷ (21000228 is true)
    ∷ (21000229 is false)
    ∷ (21000230 is false)
    -- a year that 4 does not divide
    ∷ (19980228 is true)
    ∷ (19980229 is false)
    -- 30 and 31 April, 31 January, August and December, and the day after each
    ∷ (19980430 is true)
    ∷ (19980431 is false)
    ∷ (19980131 is true)
    ∷ (19980132 is false)
    ∷ (19980831 is true)
    ∷ (19980832 is false)
    ∷ (19981231 is true)
    ∷ (19981232 is false)
    -- month 0 and 13, day 0
    ∷ (19980001 is false)
    ∷ (19981301 is false)
    ∷ (19980100 is false)
    -- year 0; the first day and the last; the day after it, and the greatest number of four bytes
    ∷ (0 is false)
    ∷ (1231 is false)
    ∷ (10101 is true)
    ∷ (99991231 is true)
    ∷ (100000101 is false)
    ∷ (4294967295 is false)
    ∷ []

dates-hold : map (λ d. is_day_lem d.written) dates ≡ map (λ d. d.is_one) dates
unfolding dates judged
dates-hold = refl

-- ---- sheets

-- plan 3, particulates with this limit, and a small engine
abbrev small : (limit volume speed date : ℕ) → List ℕ
small L v n d = pollutant 4 3 L 0 ++ small_engine_lem v n d

-- an engine measured for particulates alone, and an answer in which these alone may be decided
abbrev particulates : ℕ → List ℕ
particulates x = engine 0 0 0 0 x

abbrev fourth : (verdict engine grounds decision decided_at : ℕ) → Answer
fourth v n grounds decision at = judgement v n grounds (replicate 3 (pair 0 0) ++ (pair decision at ∷ []))

-- bytes 8 to 11 of a record of kind 5 whose date is one
abbrev day : List ℕ
day = u32 19980930

table : List Case
table =
    -- 250 under 700 cm³ and above 3000 per minute through 19980930; else 150
    (small 250 699 3001 19980930 ++ times 4 (particulates 140) ↦→ fourth 1 4 1 1 4)
    ∷ (small 250 699 3001 19981001 ++ times 4 (particulates 140) ↦→ refusal 18 1)
    ∷ (small 250 700 3001 19980930 ++ times 4 (particulates 140) ↦→ refusal 18 1)
    ∷ (small 250 699 3000 19980930 ++ times 4 (particulates 140) ↦→ refusal 18 1)
    ∷ (small 150 699 3001 19980930 ↦→ refusal 18 1)
    ∷ (small 150 699 3001 19981001 ++ times 4 (particulates 140) ↦→ fourth 1 4 1 1 4)
    ∷ (small 150 700 3001 19980930 ↦→ fourth 0 0 0 0 0)
    -- volume and speed have no range; nothing is asked where particulates are not declared
    ∷ (small 150 0 0 19980930 ↦→ fourth 0 0 0 0 0)
    ∷ (small 150 65535 65535 19980930 ++ stop ↦→ fourth 2 0 3 0 0)
    ∷ (pollutant 1 3 250 0 ++ small_engine_lem 700 0 19981001 ++ times 4 (measured 140) ↦→ one 1 4 1 1 4)
    -- 17 before 18 and 12, and 16 before 17
    ∷ (small 250 699 3001 19980931 ↦→ refusal 17 1)
    ∷ (small 99 699 3001 19980931 ↦→ refusal 17 1)
    ∷ (pollutant 4 3 99 0 ++ (5 ∷ 1 ∷ replicate 18 0) ↦→ refusal 17 1)
    ∷ (pollutant 4 4 150 0 ++ small_engine_lem 699 3001 0 ↦→ refusal 16 1)
    -- kinds 1 5 5 and 1 2 5; behind two pollutants it stands well
    ∷ (small 150 0 0 19980930 ++ small_engine_lem 0 0 19980930 ↦→ refusal 16 2)
    ∷ (pollutant 4 3 150 0 ++ particulates 140 ++ small_engine_lem 0 0 19980930 ↦→ refusal 16 2)
    ∷ (pollutant 1 3 90 0 ++ small 150 0 0 19980930 ↦→ fourth 0 0 0 0 0)
    -- 3 before 16: kind 5 first, kinds 1 3 5, and 1 5 1
    ∷ (small_engine_lem 0 0 0 ↦→ refusal 3 0)
    ∷ (pollutant 4 3 150 0 ++ stop ++ small_engine_lem 0 0 0 ↦→ refusal 3 2)
    ∷ (pollutant 1 3 90 0 ++ small_engine_lem 0 0 19980930 ++ pollutant 4 3 150 0 ↦→ refusal 3 2)
    -- 4 is no kind
    ∷ (pollutant 4 3 150 0 ++ (4 ∷ replicate 19 0) ↦→ refusal 2 1)
    -- 12 asks the other bytes: 1, 6, 7 and 12 to 19; and 18 is before it
    ∷ (pollutant 1 3 90 0 ++ (5 ∷ 1 ∷ replicate 6 0) ++ day ++ replicate 8 0 ↦→ refusal 12 1)
    ∷ (pollutant 1 3 90 0 ++ (5 ∷ replicate 5 0) ++ (1 ∷ 0 ∷ []) ++ day ++ replicate 8 0 ↦→ refusal 12 1)
    ∷ (pollutant 1 3 90 0 ++ (5 ∷ replicate 6 0) ++ (1 ∷ []) ++ day ++ replicate 8 0 ↦→ refusal 12 1)
    ∷ (pollutant 1 3 90 0 ++ (5 ∷ replicate 7 0) ++ day ++ (1 ∷ replicate 7 0) ↦→ refusal 12 1)
    ∷ (pollutant 1 3 90 0 ++ (5 ∷ replicate 7 0) ++ day ++ replicate 7 0 ++ (1 ∷ []) ↦→ refusal 12 1)
    ∷ (pollutant 4 3 90 0 ++ (5 ∷ replicate 7 0) ++ day ++ replicate 7 0 ++ (1 ∷ []) ↦→ refusal 18 1)
    ∷ []

table-holds : map (λ c. judge pollutants squarings c.sheet) table ≡ map (λ c. c.answer) table
unfolding table judged
table-holds = refl

-- of 28-byte records: the same answers, and bytes 12 to 27 are zero
wide_table : List Case
wide_table =
    (wide (pollutant 4 3 250 0) ++ wide (small_engine_lem 699 3001 19980930) ++ times 4 (wide (particulates 140)) ↦→ judgement 1 4 1 (replicate 3 (pair 0 0) ++ (pair 1 4 ∷ replicate 2 (pair 0 0))))
    ∷ (wide (pollutant 4 3 250 0) ++ wide (small_engine_lem 699 3001 19981001) ↦→ refusal 18 1)
    ∷ (wide (pollutant 1 3 90 0) ++ small_engine_lem 0 0 19980930 ++ (1 ∷ replicate 7 0) ↦→ refusal 12 1)
    ∷ (wide (pollutant 1 3 90 0) ++ small_engine_lem 0 0 19980930 ++ replicate 7 0 ++ (1 ∷ []) ↦→ refusal 12 1)
    ∷ []

wide-table-holds : map (λ c. judge_sized 28 squarings c.sheet) wide_table ≡ map (λ c. c.answer) wide_table
unfolding wide_table judged judge_sized
wide-table-holds = refl

-- evidence counts the record: of six engines, the part through the fourth's record, at both sizes
evidence-counts : evidence pollutants squarings (small 250 699 3001 19980930 ++ times 6 (particulates 140)) ≡ small 250 699 3001 19980930 ++ times 4 (particulates 140)
unfolding judged evidence
evidence-counts = refl

wide-evidence-counts : evidence_sized 28 squarings (wide (pollutant 1 3 90 0) ++ wide (small_engine_lem 0 0 19980930) ++ times 6 (wide (measured 80)))
    ≡ wide (pollutant 1 3 90 0) ++ wide (small_engine_lem 0 0 19980930) ++ times 4 (wide (measured 80))
unfolding judged evidence evidence_sized
wide-evidence-counts = refl
