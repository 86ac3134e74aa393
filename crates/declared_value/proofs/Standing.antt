-- Laws of the definition: what the first two tests say of the declared value, the sum of three, how many tests there are, and where nothing
-- is refused.
use Rattle.arithmetic.proofs.Basics.{ℕ, zero, suc, ◌+◌, ◌*◌, ◌≤◌, arith, ◌≡◌, refl, sym, ◌∙◌, ap₂}
use Rattle.arithmetic.proofs.Basics.{Bool, false, ◌&&◌, ◌||◌, leb, List, [], ◌∷◌, length, get_or, take}
use Rattle.arithmetic.proofs.Basics.{le-ltb, le-leb, in-range, or_same}
use Rattle.rules.specs.Tools.{sum}
use Rattle.rules.specs.DeclaredValue.{most_tests, mean_fits, stands, decided, bad_count, bad_value_lem, after_decision, approve}

-- ---- the sums of one, two and three tests, by their places

sum_one : (ts : List ℕ) → sum (take 1 ts) ≡ get_or ts 0 0
unfolding sum
sum_one [] = refl
sum_one (a ∷ ts) = omega arith

sum-two : (ts : List ℕ) → sum (take 2 ts) ≡ get_or ts 0 0 + get_or ts 1 0
unfolding sum
sum-two [] = refl
sum-two (a ∷ []) = omega arith
sum-two (a ∷ b ∷ ts) = omega arith

pub sum-three : (ts : List ℕ) → length ts ≤ most_tests → sum ts ≡ get_or ts 0 0 + get_or ts 1 0 + get_or ts 2 0
unfolding sum
sum-three [] h = refl
sum-three (a ∷ []) h = omega arith
sum-three (a ∷ b ∷ []) h = omega arith
sum-three (a ∷ b ∷ c ∷ []) h = omega arith
sum-three (a ∷ b ∷ c ∷ e ∷ ts) h = absurd (omega arith)

-- ---- the program's two comparisons

abbrev one : (d : ℕ) → List ℕ → Bool
one d ts = leb (100 * get_or ts 0 0) (104 * d)

abbrev two : (d : ℕ) → List ℕ → Bool
two d ts = leb (100 * (get_or ts 0 0 + get_or ts 1 0)) (104 * (2 * d))

fits_one : (d : ℕ) (ts : List ℕ) → mean_fits d 1 ts ≡ one d ts
unfolding mean_fits
fits_one d ts = let e : 1 * d ≡ d = omega arith in rw (sum_one ts, e) refl

fits-two : (d : ℕ) (ts : List ℕ) → mean_fits d 2 ts ≡ two d ts
unfolding mean_fits
fits-two d ts = rw (sum-two ts) refl

-- from two tests on, nothing more lets the declared value stand
no-later : (d k : ℕ) (ts : List ℕ) → stands d (suc (suc k)) ts ≡ stands d 2 ts
unfolding stands
no-later d zero ts = refl
no-later d (suc k) ts =
    rw (le-ltb (suc (suc (suc k))) most_tests (omega arith)) (or_same (stands d (suc (suc k)) ts) ∙ no-later d k ts)

pub stands-is : (d k : ℕ) (ts : List ℕ) → (leb 1 k && one d ts) || (leb 2 k && two d ts) ≡ stands d k ts
unfolding stands
stands-is d zero ts = refl
stands-is d (suc zero) ts = rw (fits_one d ts) (or_same (one d ts))
stands-is d (suc (suc k)) ts =
    rw (le-leb 1 (suc (suc k)) (omega arith), le-leb 2 (suc (suc k)) (omega arith)) (sym (no-later d k ts ∙ ap₂ ◌||◌ (fits_one d ts) (fits-two d ts)))

-- ---- how many tests

pub count-inside : (ts : List ℕ) → bad_count ts ≡ false → (1 ≤ length ts) × (length ts ≤ most_tests)
unfolding bad_count
count-inside ts e = in-range 1 most_tests (length ts) e

-- ---- nothing is refused

pub record InOrder (d : ℕ) (ts : List ℕ) : Type 0 where
  pub count : bad_count ts ≡ false
  pub values : bad_value_lem d ts ≡ false
  pub time : after_decision d ts ≡ false

pub unrefused : {d : ℕ} {ts : List ℕ} → InOrder d ts → approve d ts ≡ decided d ts
unfolding approve
unrefused o = rw (o.count, o.values, o.time) refl
