-- The laws of the logarithm's bits and digits, over any number of squarings: what the loops and the theorems about g stand on.
use Rattle.arithmetic.proofs.Basics.{◌≡◌, refl, sym, ap, ◌∙◌, Bool, true, false, cond, ℕ, zero, suc, ◌+◌, ◌-◌, ◌*◌, ◌/◌, ◌^◌, ◌≤◌, ◌<◌, mul-le-mul}
use Rattle.arithmetic.proofs.Basics.{mul-le-mul_left, mul-le-mul_right, add-zero, pow-suc, arith, leb, le-leb, leb-true, leb-false}
use lib.Count.{count_leading_zeros, leading_top}
use lib.Pow.{pow_pos, pow-add}
use Rattle.rules.specs.Logarithm.{greatest, binary_digits, exponent, bit, next, bits, logarithm, g}
use Rattle.logarithm.specs.Squaring.{Scaled}

-- ---- one squaring, from M to M' by the bit b: the bit is the square's top bit of 64, and says how far the square is shifted

pub record Step (M b M' : ℕ) : Type 0 where
  pub square : M * M < 2 ^ 64
  pub top : M * M / 2 ^ 63 ≡ b
  pub shifted : M * M / 2 ^ (31 + b) ≡ M'
  pub scaled : Scaled M'
  pub power : 2 ^ b ≡ 1 + b
  -- rounding down takes less than one part in 2 ^ 31
  pub low : (1 + b) * (M' * 2 ^ 31) ≤ M * M
  pub high : M * M ≤ (1 + b) * (M' * (2 ^ 31 + 1))

pub step : (M : ℕ) → Scaled M → Step M (bit M) (next M)
step M h = cases (leb (2 ^ 63) (M * M)) refl
  where
    range : (2 ^ 62 ≤ M * M) × (M * M < 2 ^ 64)
    range = (mul-le-mul h.0 h.0, omega (arith, mul-le-mul h.1 h.1))

    cases : (t : Bool) → leb (2 ^ 63) (M * M) ≡ t → Step M (cond t 1 0) (cond t (M * M / 2 ^ 32) (M * M / 2 ^ 31))
    cases true e =
        let one = leb-true (2 ^ 63) (M * M) e in
        let r = range in
        record { square = r.1; top = omega arith; shifted = refl; scaled = omega arith; power = refl; low = omega arith; high = omega arith }
    cases false e =
        let none = leb-false (2 ^ 63) (M * M) e in
        let r = range in
        record { square = r.1; top = omega arith; shifted = refl; scaled = omega arith; power = refl; low = omega arith; high = omega arith }

-- ---- the bits come after those found before, and q of them are below 2 ^ q

bits-add : (q a b M : ℕ) → bits q (a + b) M ≡ a * 2 ^ q + bits q b M
unfolding bits
bits-add zero a b M = omega arith
bits-add (suc q) a b M =
    let e : (a + b) * 2 + bit M ≡ a * 2 + (b * 2 + bit M) = omega arith in
    rw (e, pow-suc 2 q) (omega (arith, bits-add q (a * 2) (b * 2 + bit M) (next M)))

pub bits-after : (q found M : ℕ) → bits q found M ≡ found * 2 ^ q + bits q 0 M
bits-after q found M = rw add-zero at (bits-add q found 0 M)

bit_le : (test : Bool) → cond test 1 0 ≤ 1
bit_le true = omega arith
bit_le false = omega arith

pub bits-lt : (q found M : ℕ) → bits q found M < (found + 1) * 2 ^ q
unfolding bits
bits-lt zero found M = omega arith
bits-lt (suc q) found M =
    let l : (found * 2 + bit M + 1) * 2 ^ q ≤ (found * 2 + 2) * 2 ^ q = mul-le-mul_right (2 ^ q) (omega (arith, bit_le (leb (2 ^ 63) (M * M)))) in
    rw (pow-suc 2 q) (omega (arith, bits-lt q (found * 2 + bit M) (next M), l))

pub bits-ge : (q found M : ℕ) → found ≤ bits q found M
bits-ge q found M = omega (arith, bits-after q found M, mul-le-mul_left found (pow_pos q))

-- ---- the exponent

digits-leading : (k m : ℕ) → m < 2 ^ k → binary_digits k m + count_leading_zeros k m ≡ k
unfolding binary_digits count_leading_zeros
digits-leading zero m l = refl
digits-leading (suc k) zero l = omega arith
digits-leading (suc k) (suc m) l =
    let p : 1 ≤ suc m = omega arith in
    simp (le-leb 1 (suc m) p) (omega (arith, digits-leading k (suc m / 2) (omega arith)))

-- what the exponent of m says of m scaled by it, and of m's leading zeros
pub record Placed (m : ℕ) : Type 0 where
  pub few : exponent m ≤ 31
  pub zeros : count_leading_zeros 32 m ≡ 31 - exponent m
  pub scaled : Scaled (m * 2 ^ (31 - exponent m))
  pub whole : 2 ^ exponent m * (m * 2 ^ (31 - exponent m)) ≡ m * 2 ^ 31

pub placed : (m : ℕ) → 1 ≤ m → m < 2 ^ 32 → Placed m
placed m p l = at (leading_top 32 m p l)
  where
    at : (j : ℕ) × (count_leading_zeros 32 m + suc j ≡ 32) × (2 ^ j ≤ m) × (m < 2 ^ suc j) → Placed m
    at (j, s, h, b) =
        let d : exponent m ≡ j = omega (arith, digits-leading 32 m l) in
        let t : j + (31 - j) ≡ 31 = omega arith in
        let e : 2 ^ j * 2 ^ (31 - j) ≡ 2 ^ 31 = sym (pow-add 2 j (31 - j)) ∙ ap (λ (x : ℕ). 2 ^ x) t in
        record {
          few = omega arith;
          zeros = omega arith;
          scaled = rw d (omega (arith, mul-le-mul_right (2 ^ (31 - j)) h, mul-le-mul_right (2 ^ (31 - j)) (rw pow-suc at b), pow_pos (31 - j)));
          whole = rw d (omega (arith, ap (λ (x : ℕ). m * x) e));
        }

-- ---- "m from 1 to 9,999,999": g as the bits after the exponent

pub g-in : (q m : ℕ) → 1 ≤ m → m ≤ greatest → g q m ≡ bits q (exponent m) (m * 2 ^ (31 - exponent m))
unfolding g logarithm
g-in q m p h = simp (le-leb 1 m p, le-leb m greatest h) (sym (bits-after q (exponent m) (m * 2 ^ (31 - exponent m))))
