-- Document 02, F-8: pairs of a low and a high sheet, and what is sure of every sheet between them. Each of the checks is computed.
use Rattle.std.specs.Prelude.{ℕ, ◌≡◌, refl, List, [], ◌∷◌, ◌++◌, map}
use Rattle.rules.specs.Logarithm.{squarings}
use Rattle.rules.specs.Sheet.{pollutants}
use Rattle.rules.specs.Ranges.{differ_elsewhere, differ_at_zero_hours, crossed, other_plan_lem, range_check, RangeAnswer, passes_surely, fails_surely, depends, turned_away, range, range_sized}
use Rattle.cases.specs.Bytes.{pollutant, measured, ran_in, wide, six, stop, times}
use Rattle.cases.specs.Judged.{judged}

-- two sheets and the answer for them
record Case : Type 0 where
  low : List ℕ
  high : List ℕ
  answer : RangeAnswer

abbrev ◌to◌↦→◌ : List ℕ → List ℕ → RangeAnswer → Case
low to high ↦→ a = record { low = low; high = high; answer = a }

infix 20 ◌to◌↦→◌
-- plan 3, pollutant 1 with the limit 100
abbrev hundred : List ℕ → List ℕ
hundred engines = pollutant 1 3 100 0 ++ engines

-- ---- the request's pairs

sure : List Case
sure =
    (hundred (times 4 (measured 90)) to hundred (times 4 (measured 100)) ↦→ passes_surely 4)
    ∷ (hundred (times 4 (measured 90)) to hundred (times 3 (measured 100) ++ measured 101) ↦→ depends)
    -- stopped: a fail by the stop, also straight after the pollutants
    ∷ (hundred (times 2 (measured 90) ++ stop) to hundred (times 2 (measured 101) ++ stop) ↦→ fails_surely 2)
    ∷ (hundred stop to hundred stop ↦→ fails_surely 0)
    -- nothing is decided
    ∷ (hundred [] to hundred [] ↦→ depends)
    ∷ []

sure-holds : map (λ c. range pollutants squarings c.low c.high) sure ≡ map (λ c. c.answer) sure
unfolding sure judged differ_elsewhere differ_at_zero_hours crossed other_plan_lem range_check range
sure-holds = refl

-- the latest engine is the high sheet's where all pass, and the low sheet's where all fail
latest : List Case
latest =
    (hundred (measured 90 ++ times 4 (measured 101)) to hundred (times 5 (measured 101)) ↦→ fails_surely 5)
    ∷ (hundred (times 6 (measured 90)) to hundred (measured 101 ++ times 5 (measured 90)) ↦→ passes_surely 6)
    ∷ []

latest-holds : map (λ c. range pollutants squarings c.low c.high) latest ≡ map (λ c. c.answer) latest
unfolding latest judged differ_elsewhere differ_at_zero_hours crossed other_plan_lem range_check range
latest-holds = refl

-- plan 1, limit 4000: document 01's three at 2000, and one thousandth lower
known : List Case
known =
    (pollutant 1 1 4000 625020 ++ times 3 (measured 1999) to pollutant 1 1 4000 625020 ++ times 3 (measured 2000) ↦→ passes_surely 3)
    ∷ (pollutant 1 1 4000 625021 ++ times 3 (measured 1999) to pollutant 1 1 4000 625021 ++ times 3 (measured 2000) ↦→ depends)
    ∷ []

known-holds : map (λ c. range pollutants squarings c.low c.high) known ≡ map (λ c. c.answer) known
unfolding known judged differ_elsewhere differ_at_zero_hours crossed other_plan_lem range_check range
known-holds = refl

-- ---- run-in sheets: "the run-in values are measurements too", and the first engine's the same

ran_ins : List Case
ran_ins =
    -- 111 × 90 is at most 100 × 100; 111 × 91 is above
    (hundred (ran_in 80 ++ measured 100 ++ times 3 (measured 90)) to hundred (ran_in 90 ++ measured 100 ++ times 3 (measured 111)) ↦→ passes_surely 4)
    ∷ (hundred (ran_in 80 ++ measured 100 ++ times 3 (measured 90)) to hundred (ran_in 91 ++ measured 100 ++ times 3 (measured 111)) ↦→ depends)
    -- 27: the first engine, a run-in sheet and one that is none; 28: the run-in value
    ∷ (hundred (ran_in 90 ++ measured 100 ++ measured 100) to hundred (ran_in 90 ++ measured 101 ++ measured 100) ↦→ turned_away 27 0)
    ∷ (hundred (ran_in 90 ++ measured 100) to hundred (measured 90 ++ measured 100) ↦→ turned_away 27 0)
    ∷ (hundred (ran_in 91 ++ measured 100) to hundred (ran_in 90 ++ measured 100) ↦→ turned_away 28 0)
    ∷ []

ran_ins-hold : map (λ c. range pollutants squarings c.low c.high) ran_ins ≡ map (λ c. c.answer) ran_ins
unfolding ran_ins judged differ_elsewhere differ_at_zero_hours crossed other_plan_lem range_check range
ran_ins-hold = refl

-- ---- what is turned away, in its order

turned : List Case
turned =
    -- "each sheet's own number, low sheet first"
    (hundred (measured 0) to [] ↦→ turned_away 8 1)
    ∷ (hundred (measured 90) to hundred (measured 0) ↦→ turned_away 8 1)
    ∷ (hundred (measured 90) to [] ↦→ turned_away 1 0)
    -- "27, sheets differ elsewhere": in length, in a limit, in a deviation; and before 28
    ∷ (hundred (measured 90) to hundred (times 2 (measured 90)) ↦→ turned_away 27 0)
    ∷ (hundred (measured 90) to pollutant 1 3 101 0 ++ measured 80 ↦→ turned_away 27 0)
    ∷ (pollutant 1 1 100 5 ++ measured 90 to pollutant 1 1 100 6 ++ measured 90 ↦→ turned_away 27 0)
    -- "28, a low above its high, after 27", and before 29
    ∷ (hundred (measured 90) to hundred (measured 89) ↦→ turned_away 28 0)
    ∷ (pollutant 1 2 100 0 ++ measured 90 to pollutant 1 2 100 0 ++ measured 89 ↦→ turned_away 28 0)
    -- "29, another plan, after 28"
    ∷ (pollutant 1 2 100 0 ++ measured 90 to pollutant 1 2 100 0 ++ measured 90 ↦→ turned_away 29 0)
    ∷ (pollutant 1 4 100 0 ++ measured 90 to pollutant 1 4 100 0 ++ measured 90 ↦→ turned_away 29 0)
    ∷ (pollutant 1 5 100 0 ++ measured 90 to pollutant 1 5 100 0 ++ measured 90 ↦→ turned_away 29 0)
    ∷ []

turned-holds : map (λ c. range pollutants squarings c.low c.high) turned ≡ map (λ c. c.answer) turned
unfolding turned judged differ_elsewhere differ_at_zero_hours crossed other_plan_lem range_check range
turned-holds = refl

-- of 28-byte records: pollutant 6 is compared too; and "30, size not 20 or 28, before every other"
sized : List RangeAnswer
sized =
    range_sized 28 squarings (wide (pollutant 6 3 50 0) ++ times 4 (six 0 0 0 0 0 0 40)) (wide (pollutant 6 3 50 0) ++ times 4 (six 0 0 0 0 0 0 50))
    ∷ range_sized 28 squarings (wide (pollutant 6 3 50 0) ++ six 0 0 0 0 0 0 50) (wide (pollutant 6 3 50 0) ++ six 0 0 0 0 0 0 49)
    ∷ range_sized 20 squarings (hundred (measured 90)) (hundred (measured 100))
    ∷ range_sized 24 squarings [] []
    ∷ []

sized-holds : sized ≡ passes_surely 4 ∷ turned_away 28 0 ∷ depends ∷ turned_away 30 0 ∷ []
unfolding sized judged differ_elsewhere differ_at_zero_hours crossed other_plan_lem range_check range range_sized
sized-holds = refl
