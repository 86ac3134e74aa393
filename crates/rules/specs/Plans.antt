-- Document 01, "Plans", and document 02, F-2, F-6 and F-9: last rows, decision numbers, and what a row says of one pollutant.
use Rattle.std.specs.Prelude.{ℕ, ◌+◌, ◌-◌, ◌*◌, ◌/◌, ◌^◌, Bool, not, ◌&&◌, ◌||◌, cond, List, [], ◌∷◌, leb, ltb, eqb, length, get_or, ℤ, pos, neg_ℤ, ◌+ℤ◌, ◌-ℤ◌, ◌*ℤ◌}
use Rattle.std.specs.Int.Signed.{lt_z, le_z}
use Rattle.rules.specs.Tools.{those, square}
use Rattle.rules.specs.Logarithm.{Correction, D, W}

pub data Plan : Type 0 where
  known_deviation_lem unknown_deviation_lem attributes in_service_lem corrected : Plan

-- plans 1 to 5
abbrev pub plan_count : ℕ
plan_count = 5

-- the number of each plan on a sheet
abbrev pub number_of : Plan → ℕ
number_of known_deviation_lem = 1
number_of unknown_deviation_lem = 2
number_of attributes = 3
number_of in_service_lem = 4
number_of corrected = 5

-- the plan of a number. For a number that is no plan's, which refusal 5 turns down, plan 1 stands here, and no answer depends on it.
unfoldable pub plan_of : ℕ → Plan
plan_of n =
    cond (eqb n (number_of known_deviation_lem)) known_deviation_lem
    (cond (eqb n (number_of unknown_deviation_lem)) unknown_deviation_lem
    (cond (eqb n (number_of attributes)) attributes
    (cond (eqb n (number_of in_service_lem)) in_service_lem
    (cond (eqb n (number_of corrected)) corrected known_deviation_lem))))

-- "The last row belongs to the plan: 32, 32, 19 and 15 engines."; 02, F-6: "ending at 32"
abbrev pub last_row_lem : Plan → ℕ
last_row_lem known_deviation_lem = 32
last_row_lem unknown_deviation_lem = 32
last_row_lem attributes = 19
last_row_lem in_service_lem = 15
last_row_lem corrected = 32

-- "A row gives pass, fail or open"
pub data Row : Type 0 where
  pass fail undecided : Row

-- "pass is tested first. In the last row, what doesn't pass fails."
unfoldable pub decide : (passes last fails : Bool) → Row
decide passes last fails = cond passes pass (cond (last || fails) fail undecided)

-- ---- 1, known deviation (001, App. 1)

-- "in thousandths: A = 3327 − 66(n−3)", "A and B at 32 are −2112"
abbrev pub known_a : (n : ℕ) → ℤ
known_a n = cond (eqb n 32) (neg_ℤ (pos 2112)) (pos 3327 -ℤ pos 66 *ℤ (pos n -ℤ pos 3))

-- "B = −4724 − 66(n−3), and 1 more from n = 10"
abbrev pub known_b : (n : ℕ) → ℤ
known_b n = cond (eqb n 32) (neg_ℤ (pos 2112)) (neg_ℤ (pos 4724) -ℤ pos 66 *ℤ (pos n -ℤ pos 3) +ℤ cond (leb 10 n) (pos 1) (pos 0))

-- the natural logarithm of 2, in billionths
abbrev pub log_of_two : ℕ
log_of_two = 693147181

-- "T = −D. Pass if T × 693,147,181 > A × t × .."; 02, F-9: "1,048,576 in g itself, in plan 1"
unfoldable pub known_passes : (q n : ℕ) (D : ℤ) (t : ℕ) → Bool
known_passes q n D t = lt_z (known_a n *ℤ pos t *ℤ pos (2 ^ q)) (neg_ℤ D *ℤ pos log_of_two)

-- "fail if less than the same with B"
unfoldable pub known_fails : (q n : ℕ) (D : ℤ) (t : ℕ) → Bool
known_fails q n D t = lt_z (neg_ℤ D *ℤ pos log_of_two) (known_b n *ℤ pos t *ℤ pos (2 ^ q))

-- ---- 2, unknown deviation (001, App. 2)

-- "For A < 0, P ≤ A√W means P ≤ 0 and P² ≥ A²W; for A ≥ 0, P ≤ 0 or P² ≤ A²W."
unfoldable pub at_most_root : (P A W : ℤ) → Bool
at_most_root P A W =
    cond (lt_z A (pos 0))
    (le_z P (pos 0) && le_z (square A *ℤ W) (square P))
    (le_z P (pos 0) || le_z (square P) (square A *ℤ W))

-- "For B > 0, P ≥ B√W means P ≥ 0 and P² ≥ B²W."
unfoldable pub at_least_root : (P B W : ℤ) → Bool
at_least_root P B W = le_z (pos 0) P && le_z (square B *ℤ W) (square P)

-- A and B of one row
pub record Numbers : Type 0 where
  pub A : ℤ
  pub B : ℤ

-- −a and b, which the document prints as −a/b
abbrev pub −◌and◌ : ℕ → ℕ → Numbers
− a and b = record { A = neg_ℤ (pos a); B = pos b }

infix 90 −◌and◌
-- "Hundred-thousandths, A/B from n = 3", to 31
abbrev pub printed : List Numbers
printed =
    − 80381 and 1664743 ∷ − 76339 and 768627 ∷ − 72982 and 467136 ∷ − 69962 and 325573 ∷ − 67129 and 245431 ∷
    − 64406 and 194369 ∷ − 61750 and 159105 ∷ − 59135 and 133295 ∷ − 56542 and 113566 ∷ − 53960 and 97970 ∷
    − 51379 and 85307 ∷ − 48791 and 74801 ∷ − 46191 and 65928 ∷ − 43573 and 58321 ∷ − 40933 and 51718 ∷
    − 38266 and 45922 ∷ − 35570 and 40788 ∷ − 32840 and 36203 ∷ − 30072 and 32078 ∷ − 27263 and 28343 ∷
    − 24410 and 24943 ∷ − 21509 and 21831 ∷ − 18557 and 18970 ∷ − 15550 and 16328 ∷ − 12483 and 13880 ∷
    − 9354 and 11603 ∷ − 6159 and 9480 ∷ − 2892 and 7493 ∷ − 449 and 5629 ∷ []

-- "A at 32 is −3876"; there is no B at 32, and none is asked for
unfoldable pub unknown_numbers : (n : ℕ) → Numbers
unknown_numbers n = get_or printed (n - 3) (− 3876 and 0)

-- "P = 100,000 × D. Pass if P ≤ A√W, fail if P ≥ B√W, roots never taken."
unfoldable pub root_passes : (A : ℤ) (D W : ℤ) → Bool
root_passes A D W = at_most_root (pos 100000 *ℤ D) A W

unfoldable pub root_fails : (B : ℤ) (D W : ℤ) → Bool
root_fails B D W = at_least_root (pos 100000 *ℤ D) B W

-- ---- 3, attributes (001, App. 3)

-- 02, F-2: "attributes compare x_j × value with L × x_1"; without running-in "c = engines with x > L"
abbrev pub count_over : (L : ℕ) → Correction → List ℕ → ℕ
count_over L c xs = length (those (λ x. ltb (L * c.first) (x * c.value)) xs)

-- "Pass if c ≤ (n−4)/2 rounded down, never at n = 3", "At 19: pass up to 8"
unfoldable pub attributes_passes : (n c : ℕ) → Bool
attributes_passes n c = cond (eqb n 19) (leb c 8) (not (eqb n 3) && leb c ((n - 4) / 2))

-- "fail if c ≥ n/2 rounded down + 2", "At 19: .. fail from 9"
unfoldable pub attributes_fails : (n c : ℕ) → Bool
attributes_fails n c = cond (eqb n 19) (leb 9 c) (leb (n / 2 + 2) c)

-- ---- 4, in service (000)

-- "Rows as plan 2 up to 14; at 15, A is 15474."
unfoldable pub in_service_numbers : (n : ℕ) → Numbers
in_service_numbers n = cond (eqb n 15) (record { A = pos 15474; B = pos 0 }) (unknown_numbers n)

-- ---- 5, unknown deviation, the corrected sheet (02, F-6)

-- "A is 449 at 31, A and B are 3876 at 32. It becomes plan 5, otherwise as plan 2"
unfoldable pub corrected_numbers : (n : ℕ) → Numbers
corrected_numbers n =
    cond (eqb n 31) (record { A = pos 449; B = (unknown_numbers n).B })
    (cond (eqb n 32) (record { A = pos 3876; B = pos 3876 })
    (unknown_numbers n))

-- ---- the row n of a plan, for the limit L, the deviation t, the correction and the n measurements xs

unfoldable pub row_passes : Plan → (q n L t : ℕ) → Correction → List ℕ → Bool
row_passes known_deviation_lem q n L t c xs = known_passes q n (D q L c xs) t
row_passes unknown_deviation_lem q n L t c xs = root_passes (unknown_numbers n).A (D q L c xs) (W q L c xs)
row_passes attributes q n L t c xs = attributes_passes n (count_over L c xs)
row_passes in_service_lem q n L t c xs = root_passes (in_service_numbers n).A (D q L c xs) (W q L c xs)
row_passes corrected q n L t c xs = root_passes (corrected_numbers n).A (D q L c xs) (W q L c xs)

unfoldable pub row_fails : Plan → (q n L t : ℕ) → Correction → List ℕ → Bool
row_fails known_deviation_lem q n L t c xs = known_fails q n (D q L c xs) t
row_fails unknown_deviation_lem q n L t c xs = root_fails (unknown_numbers n).B (D q L c xs) (W q L c xs)
row_fails attributes q n L t c xs = attributes_fails n (count_over L c xs)
row_fails in_service_lem q n L t c xs = root_fails (in_service_numbers n).B (D q L c xs) (W q L c xs)
row_fails corrected q n L t c xs = root_fails (corrected_numbers n).B (D q L c xs) (W q L c xs)

unfoldable pub row : Plan → (q n L t : ℕ) → Correction → List ℕ → Row
row plan q n L t c xs = decide (row_passes plan q n L t c xs) (eqb n (last_row_lem plan)) (row_fails plan q n L t c xs)
