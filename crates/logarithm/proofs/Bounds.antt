-- The size of g, at every m: what sums of g need to fit, and what the loops need.
use Rattle.arithmetic.proofs.Basics.{ℕ, suc, ◌+◌, ◌-◌, ◌*◌, ◌^◌, ◌≤◌, ◌<◌, ◌≡◌, refl, sym, ap, ◌∙◌, ◌⊎◌, inl, inr, mul-le-mul_right, arith, le-leb, lt-leb}
use Rattle.arithmetic.proofs.Basics.{lt-or-ge}
use lib.Pow.{pow_pos, pow_mono}
use Rattle.rules.specs.Logarithm.{greatest, squarings, binary_digits, exponent, bits, g}
use Rattle.logarithm.specs.declared.Unfinished.{Unfinished}
use Rattle.logarithm.specs.Four.{Measured}
use Rattle.logarithm.specs.Squaring.{Scaled, Fits, start_of, next_of}
use Rattle.logarithm.proofs.Laws.{step, bits-lt, bits-ge, placed, g-in}
use Rattle.logarithm.proofs.Rising.{digits-rise}

-- "any other m gets 0"
pub g_outside : (q m : ℕ) → (m < 1) ⊎ (greatest < m) → g q m ≡ 0
unfolding g
g_outside q m (inl h) = simp (lt-leb 1 m h)
g_outside q m (inr h) = let p : 1 ≤ m = omega arith in simp (le-leb 1 m p, lt-leb m greatest h)

pub g-lt : (q m : ℕ) → g q m < 24 * 2 ^ q
unfolding binary_digits
g-lt q m = cases (lt-or-ge m 1) (lt-or-ge greatest m)
  where
    cases : (m < 1) ⊎ (1 ≤ m) → (greatest < m) ⊎ (m ≤ greatest) → g q m < 24 * 2 ^ q
    cases (inl none) l = rw (g_outside q m (inl none)) (omega (arith, pow_pos q))
    cases (inr p) (inl past) = rw (g_outside q m (inr past)) (omega (arith, pow_pos q))
    cases (inr p) (inr l) =
        let e : exponent m + 1 ≤ 24 = omega (arith, digits-rise 32 m greatest l) in
        rw (g-in q m p l) (omega (arith, bits-lt q (exponent m) (m * 2 ^ (31 - exponent m)), mul-le-mul_right (2 ^ q) e))

-- as a number, with which the ranges of `rows` and `statistics` are stated
pub g-fits : (m : ℕ) → g squarings m < 24 * 2 ^ 20
g-fits m = omega (arith, g-lt squarings m, pow_mono {i = squarings} {j = 20} (omega arith))

-- ---- where the squarings of a number are after so many turns of a loop: what is left to find, after the bits found, comes to the whole

abbrev pub bits_from : (q : ℕ) → Unfinished → ℕ
bits_from q x = bits q x.bits x.scaled

pub record At (first : Unfinished) (counter : ℕ) (x : Unfinished) : Type 0 where
  pub scaled : Scaled x.scaled
  pub comes : bits_from (squarings - counter) x ≡ bits_from squarings first
  pub small : bits_from squarings first < 2 ^ 31

pub at-start : {m : ℕ} {x : Unfinished} → Measured m → x ≡ start_of m → At x 0 x
at-start {m} h e =
    rw e
    (record {
      scaled = (placed m h.0 (omega arith)).scaled;
      comes = refl;
      small = rw (← g-in squarings m h.0 h.1) (omega (arith, g-fits m));
    })

module _ {first x : Unfinished} {counter : ℕ} (h : At first counter x) where
  pub at_next : {y : Unfinished} → counter < squarings → y ≡ next_of x → At first (counter + 1) y
  unfolding bits
  at_next l e =
      let s : squarings - counter ≡ suc (squarings - (counter + 1)) = omega arith in
      rw e (record { scaled = (step x.scaled h.scaled).scaled; comes = rw s at h.comes; small = h.small })

  pub at-fits : counter < squarings → Fits x
  at-fits l =
      let n = at_next {y = next_of x} l refl in
      record { scaled = h.scaled; few = omega (arith, bits-ge (squarings - (counter + 1)) (next_of x).bits (next_of x).scaled) }

  pub at-end : {m : ℕ} → squarings ≤ counter → Measured m → first ≡ start_of m → x.bits ≡ g squarings m
  unfolding bits
  at-end {m} l p e =
      let s : squarings - counter ≡ 0 = omega arith in
      (rw s at h.comes) ∙ ap (bits_from squarings) e ∙ sym (g-in squarings m p.0 p.1)
