-- "A larger m never has a smaller g": where the bits found are the same, a larger M finds at least as many more;
-- where they differ, no later bit makes up for it.
use Rattle.arithmetic.proofs.Basics.{ℕ, zero, suc, ◌+◌, ◌-◌, ◌*◌, ◌/◌, ◌^◌, ◌≤◌, ◌<◌, zero-le, ◌≡◌, refl, Bool, true, false, cond, ◌⊎◌, inl, inr, ⊎_elim}
use Rattle.arithmetic.proofs.Basics.{le_refl, mul-le-mul, mul-le-mul_right, arith, leb, le-leb, leb-true, leb-false, lt-or-ge}
use lib.Pow.{shr_mono}
use Rattle.rules.specs.Logarithm.{greatest, binary_digits, exponent, bit, next, bits, g}
use Rattle.logarithm.proofs.Laws.{bits-after, bits-lt, g-in}

-- fewer bits found stay fewer
fewer : (q a b M N : ℕ) → a < b → bits q a M ≤ bits q b N
fewer q a b M N l = omega (arith, bits-lt q a M, mul-le-mul_right (2 ^ q) l, bits-after q b N)

-- one squaring
next-rises : (M N : ℕ) → M ≤ N → (bit M < bit N) ⊎ ((bit M ≡ bit N) × (next M ≤ next N))
next-rises M N l = cases (leb (2 ^ 63) (M * M)) (leb (2 ^ 63) (N * N)) refl refl
  where
    cases : (s t : Bool) → leb (2 ^ 63) (M * M) ≡ s → leb (2 ^ 63) (N * N) ≡ t
        → (cond {A = ℕ} s 1 0 < cond t 1 0)
        ⊎ ((◌≡◌ {A = ℕ} (cond s 1 0) (cond t 1 0)) × (cond s (M * M / 2 ^ 32) (M * M / 2 ^ 31) ≤ cond t (N * N / 2 ^ 32) (N * N / 2 ^ 31)))
    cases true true d e = inr (refl, shr_mono 32 (mul-le-mul l l))
    cases true false d e = absurd (omega (arith, leb-true (2 ^ 63) (M * M) d, leb-false (2 ^ 63) (N * N) e, mul-le-mul l l))
    cases false true d e = inl (omega arith)
    cases false false d e = inr (refl, shr_mono 31 (mul-le-mul l l))

bits-rise : (q found M N : ℕ) → M ≤ N → bits q found M ≤ bits q found N
unfolding bits
bits-rise zero found M N l = le_refl found
bits-rise (suc q) found M N l =
    ⊎_elim (λ b. fewer q (found * 2 + bit M) (found * 2 + bit N) (next M) (next N) (omega arith))
    (λ e. rw e.0 (bits-rise q (found * 2 + bit N) (next M) (next N) e.1))
    (next-rises M N l)

-- nor does the number of digits fall
pub digits-rise : (k m m' : ℕ) → m ≤ m' → binary_digits k m ≤ binary_digits k m'
unfolding binary_digits
digits-rise zero m m' l = zero-le
digits-rise (suc k) zero m' l = zero-le
digits-rise (suc k) (suc m) m' l =
    let p : 1 ≤ suc m = omega arith in
    let p' : 1 ≤ m' = omega arith in
    simp (le-leb 1 (suc m) p, le-leb 1 m' p') (omega (arith, digits-rise k (suc m / 2) (m' / 2) (omega arith)))

pub rising : (q m m' : ℕ) → 1 ≤ m → m ≤ m' → m' ≤ greatest → g q m ≤ g q m'
rising q m m' p l h =
    rw (g-in q m p (omega arith), g-in q m' (omega arith) h)
    (⊎_elim (λ s. fewer q (exponent m) (exponent m') (m * 2 ^ (31 - exponent m)) (m' * 2 ^ (31 - exponent m')) s)
    (λ s.
    let e : exponent m' ≡ exponent m = omega (arith, digits-rise 32 m m' l) in
    rw e (bits-rise q (exponent m) (m * 2 ^ (31 - exponent m)) (m' * 2 ^ (31 - exponent m)) (mul-le-mul_right (2 ^ (31 - exponent m)) l)))
    (lt-or-ge (exponent m) (exponent m')))
