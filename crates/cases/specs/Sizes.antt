-- Document 02, F-10: sheets of 28-byte records, and the converter. Each of the checks is computed.
use Rattle.std.specs.Prelude.{ℕ, ◌-◌, ◌≡◌, refl, List, [], ◌∷◌, ◌++◌, map, length, replicate}
use Rattle.rules.specs.Logarithm.{squarings}
use Rattle.rules.specs.Sheet.{pollutants}
use Rattle.rules.specs.Series.{pair, Answer, refusal, judgement}
use Rattle.rules.specs.Refusals.{Check, accepted, refused}
use Rattle.rules.specs.Operations.{evidence, no_room, joined, append, appended, report, reported}
use Rattle.rules.specs.Sizes.{judge_sized, evidence_sized, append_sized, appended_sized, report_sized, reported_sized}
use Rattle.rules.specs.Converter.{widen, narrow, declares_above, convert, converted, added_pollutants}
use Rattle.cases.specs.Bytes.{pollutant, engine, small_engine_lem, ran_in, six_run_in, wide, six, stop, times}
use Rattle.cases.specs.Judged.{judged}
use Rattle.cases.specs.Table.{Case, ◌↦→◌}

-- pollutant 1 under plan 3 with limit 100, pollutant 6 with limit 50, four engines at 90 and 50
abbrev sheet : List ℕ
sheet = wide (pollutant 1 3 100 0) ++ wide (pollutant 6 3 50 0) ++ times 4 (six 0 90 0 0 0 0 50)

-- document 01's "Plan 3, pollutant 4, L 150, four engines at 140", in both sizes
abbrev example : List ℕ
example = pollutant 4 3 150 0 ++ times 4 (engine 0 0 0 0 140)

abbrev wide_example : List ℕ
wide_example = wide (pollutant 4 3 150 0) ++ times 4 (wide (engine 0 0 0 0 140))

-- the six pollutants, a small engine, records behind it, 32 engines and a stop; as many as there may be, 41, are these with run-in values
abbrev many_with : (behind : List ℕ) → List ℕ
many_with behind =
    wide (pollutant 1 2 1000 0) ++ wide (pollutant 2 2 1000 0) ++ wide (pollutant 3 2 1000 0) ++ wide (pollutant 4 2 150 0)
    ++ wide (pollutant 5 2 1000 0) ++ wide (pollutant 6 2 1000 0) ++ wide (small_engine_lem 700 3000 19980930) ++ behind
    ++ times 32 (six 0 1000 1000 1000 150 1000 1000) ++ wide stop

abbrev longest : List ℕ
longest = many_with (six_run_in 1000 1000 1000 150 1000 1000)

-- ---- judging

-- an answer in which no pollutant is decided
abbrev none_decided : (engines : ℕ) → Answer
none_decided n = judgement 0 n 0 (replicate 6 (pair 0 0))

table : List Case
table =
    -- both pollutants pass at 4
    (sheet ↦→ judgement 1 4 1 (pair 1 4 ∷ replicate 4 (pair 0 0) ++ (pair 1 4 ∷ [])))
    -- "All answers for pollutants 1 to 4 stay equal"
    ∷ (wide_example ↦→ judgement 1 4 1 (replicate 3 (pair 0 0) ++ (pair 1 4 ∷ replicate 2 (pair 0 0))))
    -- pollutants 5 and 6 make gross emitters too: cause 7 is right for 1501 and cause 0 for 1500, and cause 0 is refused for 1501
    ∷ (wide (pollutant 6 4 1000 0) ++ six 7 0 0 0 0 0 1501 ↦→ none_decided 1)
    ∷ (wide (pollutant 5 4 1000 0) ++ six 0 0 0 0 0 1500 0 ↦→ none_decided 1)
    ∷ (wide (pollutant 5 4 1000 0) ++ six 0 0 0 0 0 1501 0 ↦→ refusal 9 1)
    -- 41 records have room, and 42 are refused by their length; 40 as before, and 41 with a record after the stop
    ∷ (longest ↦→ judgement 1 3 1 (replicate 6 (pair 1 3)))
    ∷ (longest ++ wide stop ↦→ refusal 1 0)
    ∷ (many_with [] ↦→ judgement 1 3 1 (replicate 6 (pair 1 3)))
    ∷ (many_with [] ++ wide stop ↦→ refusal 3 40)
    -- refusal 1: records of 20 bytes
    ∷ (example ↦→ refusal 1 0)
    -- refusal 4: "pollutant numbers run to 6"
    ∷ (wide (pollutant 7 3 100 0) ↦→ refusal 4 0)
    -- refusal 8: a measurement of pollutant 6, which is not declared, and one that is missing
    ∷ (wide (pollutant 1 3 100 0) ++ six 0 90 0 0 0 0 50 ↦→ refusal 8 1)
    ∷ (wide (pollutant 6 3 100 0) ++ six 0 0 0 0 0 0 0 ↦→ refusal 8 1)
    -- refusal 12: "the new ones zero", in a pollutant and in a stop
    ∷ (pollutant 1 3 100 0 ++ replicate 7 0 ++ (1 ∷ []) ↦→ refusal 12 0)
    ∷ (wide (pollutant 1 3 100 0) ++ stop ++ (1 ∷ replicate 7 0) ↦→ refusal 12 1)
    ∷ []

table-holds : map (λ c. judge_sized 28 squarings c.sheet) table ≡ map (λ c. c.answer) table
unfolding table judged judge_sized
table-holds = refl

-- "30, size not 20 or 28, before every other": no bytes, by the size
sizes-hold : map (λ s. judge_sized s squarings []) (0 ∷ 19 ∷ 20 ∷ 21 ∷ 24 ∷ 27 ∷ 28 ∷ 29 ∷ [])
    ≡ refusal 30 0 ∷ refusal 30 0 ∷ refusal 1 0 ∷ refusal 30 0 ∷ refusal 30 0 ∷ refusal 30 0 ∷ refusal 1 0 ∷ refusal 30 0 ∷ []
unfolding judged judge_sized
sizes-hold = refl

-- ---- report, append and evidence

-- what an operation answers or leaves in lent memory, and what it should
pub record Line (A : Type 0) : Type 0 where
  pub found : A
  pub expected : A

abbrev pub ◌is◌ : {A : Type 0} → A → A → Line A
x is y = record { found = x; expected = y }

infix 20 ◌is◌
-- "13 to 15 count 28 bytes for the new size", and 30 is before them
answers : List (Line Check)
answers =
    (report_sized 28 sheet (replicate 28 9) is accepted)
    ∷ (report_sized 28 sheet (replicate 27 9) is refused 15 0)
    ∷ (report_sized 24 sheet [] is refused 30 0)
    ∷ (append_sized 28 (sheet ++ replicate 28 9) 168 (six 0 90 0 0 0 0 50) is accepted)
    ∷ (append_sized 28 (sheet ++ replicate 27 9) 168 (six 0 90 0 0 0 0 50) is refused 13 0)
    ∷ (append_sized 28 (sheet ++ replicate 28 9) 168 (engine 0 90 0 0 0) is refused 14 0)
    ∷ (append_sized 24 [] 168 [] is refused 30 0)
    -- 02, F-2: "19, .. one after an engine"
    ∷ (append_sized 28 (sheet ++ replicate 28 9) 168 (six_run_in 90 0 0 0 0 50) is refused 19 6)
    ∷ []

answers-hold : map (λ l. l.found) answers ≡ map (λ l. l.expected) answers
unfolding answers judged report report_sized no_room joined append append_sized
answers-hold = refl

memory : List (Line (List ℕ))
memory =
    -- "its report is 28 bytes with six pairs and twelve zeros", and bytes behind it stay
    (reported_sized 28 squarings sheet (replicate 30 9) is 16 ∷ 1 ∷ 1 ∷ 4 ∷ 1 ∷ 4 ∷ replicate 8 0 ++ (1 ∷ 4 ∷ replicate 12 0) ++ replicate 2 9)
    -- 28 bytes are appended
    ∷ (appended_sized 28 (sheet ++ replicate 29 9) 168 (six 0 90 0 0 0 0 50) is sheet ++ six 0 90 0 0 0 0 50 ++ (9 ∷ []))
    -- through the record of the deciding engine
    ∷ (evidence_sized 28 squarings (sheet ++ six 0 90 0 0 0 0 50) is sheet)
    -- a refused call changes nothing
    ∷ (reported_sized 28 squarings sheet (replicate 27 9) is replicate 27 9)
    ∷ (reported_sized 24 squarings sheet (replicate 28 9) is replicate 28 9)
    ∷ (appended_sized 28 (sheet ++ replicate 27 9) 168 (six 0 90 0 0 0 0 50) is sheet ++ replicate 27 9)
    ∷ (appended_sized 24 (sheet ++ replicate 28 9) 168 (six 0 90 0 0 0 0 50) is sheet ++ replicate 28 9)
    ∷ (evidence_sized 24 squarings sheet is [])
    ∷ []

memory-holds : map (λ l. l.found) memory ≡ map (λ l. l.expected) memory
unfolding memory judged report reported reported_sized no_room joined append appended appended_sized evidence evidence_sized
memory-holds = refl

-- ---- the converter, into an output of nines

-- the size, the sheet, the length of the output; the answer, and what is written
record Conversion : Type 0 where
  size : ℕ
  sheet : List ℕ
  room : ℕ
  answer : Check
  written : List ℕ

abbrev turned_away : (number : ℕ) → (size : ℕ) → List ℕ → (room : ℕ) → Conversion
turned_away n s b room = record { size = s; sheet = b; room = room; answer = refused n 0; written = [] }

abbrev carried : (size : ℕ) → List ℕ → (room : ℕ) → (written : List ℕ) → Conversion
carried s b room form = record { size = s; sheet = b; room = room; answer = accepted; written = form }

conversions : List Conversion
conversions =
    -- document 01's example widened is 140 bytes; "output bytes past the sheet untouched"; "there and back gives the sheet"
    carried 20 example 140 wide_example
    ∷ carried 20 example 143 wide_example
    ∷ carried 28 wide_example 100 example
    ∷ carried 28 wide_example 101 example
    -- 02, F-2: run-in values as measurements
    ∷ carried 20 (pollutant 1 3 100 0 ++ ran_in 90) 56 (wide (pollutant 1 3 100 0) ++ wide (ran_in 90))
    ∷ carried 28 (wide (pollutant 1 3 100 0) ++ wide (ran_in 90)) 40 (pollutant 1 3 100 0 ++ ran_in 90)
    -- "32, converter output too short, after 31"
    ∷ turned_away 32 20 example 139
    ∷ turned_away 32 28 wide_example 99
    -- "31, narrowing a sheet that declares pollutant 5 or 6, after the sheet's checks"
    ∷ turned_away 31 28 sheet 120
    ∷ turned_away 31 28 (wide (pollutant 5 3 100 0)) 0
    ∷ turned_away 1 28 (sheet ++ (9 ∷ [])) 120
    ∷ turned_away 4 28 (wide (pollutant 7 3 100 0)) 0
    ∷ turned_away 4 20 (pollutant 5 3 100 0) 28
    -- "30, size not 20 or 28, before every other"
    ∷ turned_away 30 24 example 140
    ∷ turned_away 30 24 [] 0
    ∷ []

conversions-hold : map (λ c. convert pollutants added_pollutants c.size c.sheet (replicate c.room 9)) conversions ≡ map (λ c. c.answer) conversions
unfolding conversions judged widen narrow declares_above convert
conversions-hold = refl

outputs-hold : map (λ c. converted pollutants added_pollutants c.size c.sheet (replicate c.room 9)) conversions
    ≡ map (λ c. c.written ++ replicate (c.room - length c.written) 9) conversions
unfolding conversions judged widen narrow declares_above convert converted
outputs-hold = refl
