-- Two sheets record by record, as the program compares them: in numbers of four bytes.
use Rattle.std.specs.Prelude.{ℕ, ◌+◌, ◌*◌, ◌/◌, Bool, true, false, not, ◌&&◌, ◌||◌, cond, List, ltb, eqb, length}
use Rattle.rules.specs.Tools.{any, some, byte, four}
use Rattle.rules.specs.Sheet.{size, measures, numbers}

-- a number of the low sheet and the high sheet's are not the same, where they have to be, or else the low one is above the high one
abbrev pub disagree : (same : Bool) → (low high : ℕ) → Bool
disagree same a b = cond same (not (eqb a b)) (ltb b a)

-- of the numbers in the four bytes from i on, or of those behind them
abbrev pub either_disagrees_lem : (low high : List ℕ) → (same : Bool) → (i : ℕ) → Bool
either_disagrees_lem low high same i = disagree same (four low i) (four high i) || disagree same (four low (i + 4)) (four high (i + 4))

module _ (w : ℕ) (low high : List ℕ) where
  -- of the record that starts at byte i: some number behind its first four bytes does
  unfoldable pub any_disagrees : (same : Bool) → (i : ℕ) → Bool
  any_disagrees same i = any (λ p. disagree same (four low (i + 4 * p)) (four high (i + 4 * p))) (numbers w)

  module _ (run_in_lem : Bool) (start : ℕ) where
    -- record j has to be the same in both: it has no measurements, or is the one at `start` of a run-in sheet
    abbrev pub is_fixed : (j : ℕ) → Bool
    is_fixed j = run_in_lem && eqb j start || not (measures (byte low (size w * j)))

    abbrev pub record_differs : (j : ℕ) → Bool
    record_differs j = disagree true (four low (size w * j)) (four high (size w * j)) || is_fixed j && any_disagrees true (size w * j)

    abbrev pub record_crosses : (j : ℕ) → Bool
    record_crosses j = not (is_fixed j) && any_disagrees false (size w * j)

    -- of some record
    unfoldable pub records_differ : Bool
    records_differ = some record_differs (length low / size w)

    unfoldable pub records_cross : Bool
    records_cross = some record_crosses (length low / size w)
