-- The bracket of demand 2: 2 ^ g ≤ m ^ (2 ^ q) < 2 ^ (g + 2), for up to 30 squarings.
use Rattle.arithmetic.proofs.Basics.{◌≡◌, sym, ap, ◌∙◌, ℕ, zero, suc, ◌+◌, ◌-◌, ◌*◌, ◌^◌, ◌≤◌, ◌<◌, mul-le-mul, mul-le-mul_left, pow-suc, pow-zero, arith}
use lib.Pow.{pow_pos, pow_mono, pow-add}
use Rattle.rules.specs.Logarithm.{greatest, squarings, exponent, bit, next, bits, g}
use Rattle.logarithm.specs.Squaring.{Scaled}
use Rattle.logarithm.proofs.Laws.{Step, step, placed, g-in}

-- What holds before each squaring, in plain numbers: E is 2 to the bits found, X the power of m that they stand for, s is 2 to the number of
-- squarings done, and r is 2 ^ 31 + 1 less s. Rounding down only lowers M, and by less than one part in 2 ^ 31.
record Holds (E M X r s : ℕ) : Type 0 where
  scaled : Scaled M
  falls : r + s ≡ 2 ^ 31 + 1
  low : E * M ≤ X * 2 ^ 31
  high : X * r ≤ E * M

-- one squaring takes s from r, as r * (r + 2s) ≤ (r + s) * (r + s)
squaring : (E M X r s b M' : ℕ) → Holds E M X (r + s) s → Step M b M' → Holds (E * E * (1 + b)) M' (X * X) r (s + s)
squaring E M X r s b M' h t = record {
  scaled = t.scaled;
  falls = omega arith;
  low = omega (arith, mul-le-mul_left (E * E) t.low, mul-le-mul h.low h.low);
  high = omega (arith, mul-le-mul_left (E * E) t.high, mul-le-mul h.high h.high, ap (λ (y : ℕ). X * X * r * y) h.falls);
}

-- the powers that a squaring makes
square-pow : (X k : ℕ) → (X * X) ^ k ≡ X ^ k * X ^ k
square-pow X zero = rw (pow-zero (X * X), pow-zero X)
square-pow X (suc k) = rw (pow-suc (X * X) k, pow-suc X k) (omega (arith, ap (λ (y : ℕ). y * (X * X)) (square-pow X k)))

twice-pow : (X q : ℕ) → (X * X) ^ (2 ^ q) ≡ X ^ (2 ^ suc q)
twice-pow X q = square-pow X (2 ^ q) ∙ sym (pow-add X (2 ^ q) (2 ^ q)) ∙ ap (λ (y : ℕ). X ^ y) (omega arith)

pow-bits : (a b : ℕ) → 2 ^ b ≡ 1 + b → 2 ^ (a * 2 + b) ≡ 2 ^ a * 2 ^ a * (1 + b)
pow-bits a b e =
    let d : a * 2 + b ≡ a + a + b = omega arith in
    rw (d, pow-add 2 (a + a) b, pow-add 2 a a, e)

abbrev Between : (k Y : ℕ) → Type 0
Between k Y = (2 ^ k ≤ Y) × (Y < 2 ^ (k + 2))

-- after the last squaring: E ≤ X < 4 * E
last : (E M X r s : ℕ) → 0 < E → Holds E M X r s → s ≤ 2 ^ 30 → (E ≤ X) × (X < E * 4)
last E M X r s p h k =
    let half : 2 ^ 30 ≤ r = omega arith in
    omega (arith, mul-le-mul_left E h.scaled.0, mul-le-mul_left E h.scaled.1, mul-le-mul_left X half)

bits-bracket : (q a M X r s : ℕ) → Holds (2 ^ a) M X r s → s * 2 ^ q ≤ 2 ^ 30 → Between (bits q a M) (X ^ (2 ^ q))
unfolding bits
bits-bracket zero a M X r s h k = rw (pow-suc X 0, pow-zero X, pow-add 2 a 2) (omega (arith, last (2 ^ a) M X r s (pow_pos a) h (omega arith)))
bits-bracket (suc q) a M X r s h k =
    let t = step M h.scaled in
    let e : r ≡ r - s + s = omega (arith, mul-le-mul_left s (pow_pos (suc q))) in
    let next-holds = squaring (2 ^ a) M X (r - s) s (bit M) (next M) (rw e at h) t in
    rw (← twice-pow X q)
    (bits-bracket q (a * 2 + bit M) (next M) (X * X) (r - s) (s + s) (rw (pow-bits a (bit M) t.power) next-holds)
    (omega (arith, rw (pow-suc 2 q) at k)))

pub bracket : (q m : ℕ) → q ≤ 30 → 1 ≤ m → m ≤ greatest → (2 ^ g q m ≤ m ^ (2 ^ q)) × (m ^ (2 ^ q) < 2 ^ (g q m + 2))
bracket q m k p l =
    let h = placed m p (omega arith) in
    rw (g-in q m p l)
    (bits-bracket q (exponent m) (m * 2 ^ (31 - exponent m)) m (2 ^ 31) 1
    (record { scaled = h.scaled; falls = omega arith; low = omega arith; high = omega arith }) (omega (arith, pow_mono k)))

-- demand 2 in its own words
pub bracket-demand : (m : ℕ) → 1 ≤ m → m ≤ 9999999 → (2 ^ g squarings m ≤ m ^ 1048576) × (m ^ 1048576 < 2 ^ (g squarings m + 2))
bracket-demand m p l = bracket squarings m (omega arith) p l
