-- Refusal 12 by kind: bytes that are read as one number are all zero exactly if the number is.
use Rattle.arithmetic.proofs.Basics.{ℕ, zero, suc, ◌+◌, ◌*◌, add-one, mul-zero, mul-suc, arith, ◌≡◌, refl, ◌∙◌, Bool, false, not, ◌||◌, eqb, take, drop, ne_eqb, or_same}
use Rattle.arithmetic.proofs.Basics.{or_assoc, any_part}
use Rattle.rules.specs.Tools.{any, byte, four}
use Rattle.rules.specs.Sheet.{Record, pollutant_kind, engine_kind, stop_kind, small_engine_kind, run_in_kind, kind}
use Rattle.rules.specs.Refusals.{nonzero, unused}
use Rattle.layout.specs.declared.Size.{Size}
use Rattle.layout.specs.declared.Size.TheVariants.{Twenty, TwentyEight}
use Rattle.layout.specs.Sizes.{width_is}
use Rattle.zeros.specs.Zeros.{unused_from_twelve_lem, pollutant_unused_lem, engine_unused, stop_unused_lem, small_engine_unused_lem, run_in_unused}

-- a number x below the byte y: one number, zero exactly if both are
joined : (c x y : ℕ) → not (eqb (x + suc c * y) 0) ≡ not (eqb x 0) || not (eqb y 0)
joined c zero zero = rw (mul-zero (suc c)) refl
joined c zero (suc y) = rw (ne_eqb (suc y) 0 (λ z. omega arith), ne_eqb (0 + suc c * suc y) 0 (λ z. omega (arith, mul-suc (suc c) y))) refl
joined c (suc x) y = rw (ne_eqb (suc x) 0 (λ z. omega arith), ne_eqb (suc x + suc c * y) 0 (λ z. omega arith)) refl

module _ (r : Record) where
  -- some of the n bytes from i on is not zero
  abbrev some : (i n : ℕ) → Bool
  some i zero = false
  some i (suc n) = not (eqb (byte r i) 0) || some (suc i) n

  one_by_one : (n i : ℕ) → any (λ x. not (eqb x 0)) (take n (drop i r)) ≡ some i n
  one_by_one zero i = refl
  one_by_one (suc n) i = any_part (λ x. not (eqb x 0)) 0 refl n i r ∙ rw (one_by_one n (suc i)) refl

  -- four of them as one number
  word : (i n : ℕ) → some i (suc (suc (suc (suc n)))) ≡ not (eqb (four r i) 0) || some (suc (suc (suc (suc i)))) n
  word i n =
      let next : i + 2 ≡ suc (suc i) = omega arith in
      let last : i + 3 ≡ suc (suc (suc i)) = omega arith in
      rw (joined 16777215, joined 65535, joined 255, or_assoc, or_assoc, or_assoc, add-one i, next, last) refl

  pub pollutant-unused : (z : Size) → kind r ≡ pollutant_kind → pollutant_unused_lem r (unused_from_twelve_lem z r) ≡ unused (width_is z) r
  unfolding unused nonzero
  pollutant-unused Twenty k = rw (k, one_by_one 1 3, one_by_one 8 12, word 12 4, word 16 0) (simp (or_same, or_assoc))
  pollutant-unused TwentyEight k = rw (k, one_by_one 1 3, one_by_one 16 12, word 12 12, word 16 8, word 20 4, word 24 0) (simp (or_same, or_assoc))

  pub engine-unused : (w : ℕ) → kind r ≡ engine_kind → engine_unused r ≡ unused w r
  unfolding unused nonzero
  engine-unused w k = rw (k, one_by_one 1 1) (simp or_same)

  pub stop-unused : (z : Size) → kind r ≡ stop_kind → stop_unused_lem r (unused_from_twelve_lem z r) ≡ unused (width_is z) r
  unfolding unused nonzero
  stop-unused Twenty k = rw (k, one_by_one 19 1, word 4 12, word 8 8, word 12 4, word 16 0) (simp (joined 255, or_same, or_assoc))
  stop-unused TwentyEight k =
      rw (k, one_by_one 27 1, word 4 20, word 8 16, word 12 12, word 16 8, word 20 4, word 24 0) (simp (joined 255, or_same, or_assoc))

  pub small-engine-unused : (z : Size) → kind r ≡ small_engine_kind → small_engine_unused_lem r (unused_from_twelve_lem z r) ≡ unused (width_is z) r
  unfolding unused nonzero
  small-engine-unused Twenty k = rw (k, one_by_one 1 1, one_by_one 2 6, one_by_one 8 12, word 12 4, word 16 0) (simp (joined 255, or_same, or_assoc))
  small-engine-unused TwentyEight k =
      rw (k, one_by_one 1 1, one_by_one 2 6, one_by_one 16 12, word 12 12, word 16 8, word 20 4, word 24 0) (simp (joined 255, or_same, or_assoc))

  pub run-in-unused : (w : ℕ) → kind r ≡ run_in_kind → run_in_unused r ≡ unused w r
  unfolding unused nonzero
  run-in-unused w k = rw (k, one_by_one 3 1) (simp (joined 255, or_same, or_assoc))
