-- Document 02, F-4, "Declared carbon dioxide" (document 004, 6.5): "compares up to three tests of one vehicle with the declared value".
-- No sheet: numbers alone. "Values are whole thousandths of g/km, 1 to 9,999,999."
use Rattle.std.specs.Prelude.{ℕ, zero, suc, ◌-◌, ◌*◌, Bool, false, not, ◌&&◌, ◌||◌, cond, List, ◌∷◌, leb, ltb, length, take}
use Rattle.rules.specs.Tools.{any, within, sum}
use Rattle.rules.specs.Logarithm.{outside}
use Rattle.rules.specs.Refusals.{Check, accepted, refused}

-- "The answer is another test, or sum and count (declared value and 1 where it stands)", or a refusal, which names no record
pub data Approval : Type 0 where
  another : Approval
  value : (sum count : ℕ) → Approval
  refusal : (number : ℕ) → Approval

-- "up to three tests"
abbrev pub most_tests : ℕ
most_tests = 3

-- the mean of the first k tests "is at most 104/100 of it, compared exactly"
unfoldable pub mean_fits : (declared k : ℕ) → (tests : List ℕ) → Bool
mean_fits d k ts = leb (100 * sum (take k ts)) (104 * (k * d))

-- "The declared value stands if the first test, else the mean of two, is": by the first k tests, or by fewer of them.
-- The mean of three is not asked: it "is taken as the type-approval value" (004, 6.5.3).
unfoldable pub stands : (declared k : ℕ) → (tests : List ℕ) → Bool
stands d zero ts = false
stands d (suc k) ts = stands d k ts || ltb (suc k) most_tests && mean_fits d (suc k) ts

-- what the tests decide: "Otherwise a third test is run and the approval value is the mean of three."
unfoldable pub decided : (declared : ℕ) → (tests : List ℕ) → Approval
decided d ts = cond (stands d (length ts) ts) (value d 1) (cond (ltb (length ts) most_tests) another (value (sum ts) most_tests))

-- "20, no tests or more than three"
unfoldable pub bad_count : (tests : List ℕ) → Bool
bad_count ts = not (within 1 most_tests (length ts))

-- "21, value out of range": the declared value, or any test
unfoldable pub bad_value_lem : (declared : ℕ) → (tests : List ℕ) → Bool
bad_value_lem d ts = any outside (d ∷ ts)

-- "22, a test after the decision": the declared value stands without the last test
unfoldable pub after_decision : (declared : ℕ) → (tests : List ℕ) → Bool
after_decision d ts = stands d (length ts - 1) ts

-- "20, ..; 21, .., after 20; 22, .., after 21"
unfoldable pub approve : (declared : ℕ) → (tests : List ℕ) → Approval
approve d ts = cond (bad_count ts) (refusal 20) (cond (bad_value_lem d ts) (refusal 21) (cond (after_decision d ts) (refusal 22) (decided d ts)))

-- ---- what C gets

-- whether it is refused, as for append and report; "A refusal that names no record, here or later, returns record 0."
abbrev pub outcome : Approval → Check
outcome another = accepted
outcome (value s n) = accepted
outcome (refusal number) = refused number 0

-- what the number that is lent for the sum holds after the call, and the one for the count: 0 and 0 where another test is due; and what
-- each held before where the call is refused
abbrev pub sum_after_lem : Approval → (before : ℕ) → ℕ
sum_after_lem another before = 0
sum_after_lem (value s n) before = s
sum_after_lem (refusal number) before = before

abbrev pub divisor_after_lem : Approval → (before : ℕ) → ℕ
divisor_after_lem another before = 0
divisor_after_lem (value s n) before = n
divisor_after_lem (refusal number) before = before
