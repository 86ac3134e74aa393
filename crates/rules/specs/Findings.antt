-- Document 02, F-5, "Testing on while a cause is sought": the operation that enters a finding.
use Rattle.std.specs.Prelude.{ℕ, ◌+◌, ◌-◌, ◌*◌, ◌/◌, ◌%◌, Bool, not, ◌||◌, cond, List, [], ◌∷◌, eqb, length, get_or, set}
use Rattle.rules.specs.Tools.{within}
use Rattle.rules.specs.Sheet.{size, records, cause, is_pending, heading, engines}
use Rattle.rules.specs.Refusals.{Check, accepted, refused, greatest_cause, check}
use Rattle.rules.specs.Operations.{and_then, on_success}
use Rattle.rules.specs.Sizes.{sized}

-- ---- the finding x for engine n of the sheet b

-- "23, no pending vehicle at that engine, counted from 1"
unfoldable pub no_pending : (w : ℕ) → (b : List ℕ) → (n : ℕ) → Bool
no_pending w b n = eqb n 0 || not (is_pending (cause (get_or (engines (records w b)) (n - 1) [])))

-- "Turned away: the sheet's own number; then 23, ..; 24, finding not 1 to 65,534, after 23; both return record 0."
unfoldable pub enter : (w : ℕ) → (b : List ℕ) → (n x : ℕ) → Check
enter w b n x = and_then (check w b) (cond (no_pending w b n) (refused 23 0) (cond (not (within 1 greatest_cause x)) (refused 24 0) accepted))

-- the place of engine n's cause: its record stands behind the heading and n − 1 engines, and "bytes 2-3" of it are the cause
abbrev pub cause_place : (w : ℕ) → (b : List ℕ) → (n : ℕ) → ℕ
cause_place w b n = size w * (length (heading (records w b)) + (n - 1)) + 2

-- the bytes b with the number x in the two at i, "little-endian"
unfoldable pub put_two : (i x : ℕ) → List ℕ → List ℕ
put_two i x b = set (set b i (x % 256)) (i + 1) (x / 256)

-- "A new operation enters the finding and changes only that record's two cause bytes."
unfoldable pub entered : (w : ℕ) → (b : List ℕ) → (n x : ℕ) → List ℕ
entered w b n x = on_success (enter w b n x) (put_two (cause_place w b n) x b) b

-- ---- by the size of a record: "30, size not 20 or 28, before every other"

unfoldable pub enter_sized : (s : ℕ) → (b : List ℕ) → (n x : ℕ) → Check
enter_sized s b n x = sized s (refused 30 0) (λ w. enter w b n x)

unfoldable pub entered_sized : (s : ℕ) → (b : List ℕ) → (n x : ℕ) → List ℕ
entered_sized s b n x = sized s b (λ w. entered w b n x)

-- ---- "every finding that could follow"

-- a call of the operation
pub record Finding : Type 0 where
  pub engine : ℕ
  pub found : ℕ

-- the sheet after any number of calls, one after the other, of which some may be turned away
abbrev pub entered_all : (w : ℕ) → List Finding → List ℕ → List ℕ
entered_all w [] b = b
entered_all w (f ∷ fs) b = entered_all w fs (entered w b f.engine f.found)
