-- Document 02, F-8, "Measurements known within a range": "Analysers state a low and a high value." What a low and a high sheet, alike but for
-- measurements, say of every sheet between them.
use Rattle.std.specs.Prelude.{ℕ, ◌+◌, ◌*◌, ◌/◌, ◌≤◌, Bool, not, ◌&&◌, ◌||◌, cond, List, ltb, eqb, length}
use Rattle.rules.specs.Tools.{any, some, byte, four}
use Rattle.rules.specs.Sheet.{size, records, run_in_kind, measures, kind, measurement, plan_number, numbers}
use Rattle.rules.specs.Plans.{known_deviation_lem, attributes, number_of}
use Rattle.rules.specs.Series.{Answer, refusal, judgement}
use Rattle.rules.specs.Refusals.{Check, accepted, refused, check}
use Rattle.rules.specs.Operations.{and_then, judge}
use Rattle.rules.specs.Demands.{Says, Decided, PassesAt, FailsAt, in_measurement, Alike, NoneHigher, first_engine, SameZeroHours}
use Rattle.rules.specs.Sizes.{sized}

-- ---- "every sheet between them"

-- alike to both in all but the measurements, none below the low sheet's or above the high sheet's; "On a run-in sheet the run-in values are
-- measurements too", and "the first engine's zero-hour values are the same" (F-2)
pub record Between (w : ℕ) (low high S : List ℕ) : Type 0 where
  pub alike_low : Alike w S low
  pub alike_high : Alike w high S
  pub not_below : NoneHigher w S low
  pub not_above : NoneHigher w high S
  pub zero_hours : SameZeroHours w high S

-- ---- what is turned away

-- "27, sheets differ elsewhere": in length, or in byte k of record j outside the measurements. Where one is a run-in sheet and the other is
-- not, they differ in a kind.
unfoldable pub differ_elsewhere : (w : ℕ) → (low high : List ℕ) → Bool
differ_elsewhere w low high =
    not (eqb (length low) (length high))
    || some (λ j. some (λ k. not (in_measurement w low j k) && not (eqb (byte low (size w * j + k)) (byte high (size w * j + k)))) (size w)) (length low / size w)

-- "or in the first engine of a run-in sheet"
unfoldable pub differ_at_zero_hours : (w : ℕ) → (low high : List ℕ) → Bool
differ_at_zero_hours w low high =
    any (λ r. eqb (kind r) run_in_kind) (records w low)
    && any (λ p. not (eqb (measurement (first_engine w low) p) (measurement (first_engine w high) p))) (numbers w)

-- "28, a low above its high": of pollutant p in record j
unfoldable pub crossed : (w : ℕ) → (low high : List ℕ) → Bool
crossed w low high =
    some (λ j. measures (byte low (size w * j)) && any (λ p. ltb (four high (size w * j + 4 * p)) (four low (size w * j + 4 * p))) (numbers w)) (length low / size w)

-- "Plans 1 and 3.", "29, another plan"
unfoldable pub other_plan_lem : (w : ℕ) → (low : List ℕ) → Bool
other_plan_lem w low =
    let plan = plan_number (records w low) in
    not (eqb plan (number_of known_deviation_lem) || eqb plan (number_of attributes))

-- "Turned away: each sheet's own number, low sheet first; then 27, ..; 28, .., after 27; 29, .., after 28; these three return record 0."
unfoldable pub range_check : (w : ℕ) → (low high : List ℕ) → Check
range_check w low high =
    and_then (check w low)
    (and_then (check w high)
    (cond (differ_elsewhere w low high || differ_at_zero_hours w low high) (refused 27 0)
    (cond (crossed w low high) (refused 28 0)
    (cond (other_plan_lem w low) (refused 29 0) accepted))))

-- ---- the answer

-- "answer: passes surely, fails surely, or depends"; "in these two cases give the latest engine at which any of them is decided"
pub data RangeAnswer : Type 0 where
  passes_surely fails_surely : (engine : ℕ) → RangeAnswer
  depends : RangeAnswer
  turned_away : (number place : ℕ) → RangeAnswer

-- What judging answers for the two sheets tells it, as lowering measurements never makes a pass later or a fail sooner: where the high
-- sheet passes every sheet between them does, and no later; where the low one fails every one does, and no later.
-- (Proved in crate `ranges`, with "exactly when".)
abbrev pub fails_or : (low : Answer) → (otherwise : RangeAnswer) → RangeAnswer
fails_or (refusal number place) otherwise = turned_away number place
fails_or (judgement verdict engine grounds pairs) otherwise = cond (eqb verdict 2) (fails_surely engine) otherwise

abbrev pub passes_or : (high : Answer) → (otherwise : RangeAnswer) → RangeAnswer
passes_or (refusal number place) otherwise = turned_away number place
passes_or (judgement verdict engine grounds pairs) otherwise = cond (eqb verdict 1) (passes_surely engine) otherwise

abbrev pub range_by : Check → (low high : Answer) → RangeAnswer
range_by accepted low high = passes_or high (fails_or low depends)
range_by (refused number place) low high = turned_away number place

unfoldable pub range : (w q : ℕ) → (low high : List ℕ) → RangeAnswer
range w q low high = range_by (range_check w low high) (judge w q low) (judge w q high)

-- by the size of a record: "30, size not 20 or 28, before every other"
unfoldable pub range_sized : (s q : ℕ) → (low high : List ℕ) → RangeAnswer
range_sized s q low high = sized s (turned_away 30 0) (λ w. range w q low high)

-- ---- what C gets

-- whether it is refused, as for append and report
abbrev pub outcome : RangeAnswer → Check
outcome (passes_surely n) = accepted
outcome (fails_surely n) = accepted
outcome depends = accepted
outcome (turned_away number place) = refused number place

-- what the number that is lent for the answer holds after the call: 1 passes surely, 2 fails surely, 0 depends; and the one for the engine,
-- "else 0". Where the call is refused, what each held before.
abbrev pub answer_after_lem : RangeAnswer → (before : ℕ) → ℕ
answer_after_lem (passes_surely n) before = 1
answer_after_lem (fails_surely n) before = 2
answer_after_lem depends before = 0
answer_after_lem (turned_away number place) before = before

abbrev pub engine_after_lem : RangeAnswer → (before : ℕ) → ℕ
engine_after_lem (passes_surely n) before = n
engine_after_lem (fails_surely n) before = n
engine_after_lem depends before = 0
engine_after_lem (turned_away number place) before = before

-- ---- what is asked of the answer

module _ (w q : ℕ) where
  -- decided, and at the engine n; at n or sooner
  abbrev pub DecidedAt : List ℕ → (n : ℕ) → Type 0
  DecidedAt b n = Decided w q b × ((v : ℕ) × Says (judge w q b) v n)

  abbrev pub DecidedBy : List ℕ → (n : ℕ) → Type 0
  DecidedBy b n = (m : ℕ) × (m ≤ n) × DecidedAt b m

  module _ (low high : List ℕ) where
    -- "every sheet between them passes", "every one fails"
    abbrev pub EachPasses : Type 0
    EachPasses = (S : List ℕ) → Between w low high S → (n : ℕ) × PassesAt w q S n

    abbrev pub EachFails : Type 0
    EachFails = (S : List ℕ) → Between w low high S → (n : ℕ) × FailsAt w q S n

    -- "the latest engine at which any of them is decided": every one is decided there or sooner, and one is decided there
    abbrev pub Latest : (n : ℕ) → Type 0
    Latest n = ((S : List ℕ) → Between w low high S → DecidedBy S n) × ((S : List ℕ) × Between w low high S × DecidedAt S n)
