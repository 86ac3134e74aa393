-- Plan 1's row, by its tests on integers, as the program makes it by tests on naturals, for every number q of squarings.
use Rattle.arithmetic.proofs.Basics.{◌≡◌, ℕ, ◌+◌, ◌*◌, ◌^◌, ◌≤◌, ◌<◌, arith, cond, eqb, ℤ, pos, neg_ℤ, ◌-ℤ◌, ◌*ℤ◌, eq-eqb, ne_eqb}
use Rattle.arithmetic.proofs.Integers.{Diff, diff-pos, diff-negpos, diff-neg, diff-minus, diff-mul, diff-move, lt_test, lt_not}
use Rattle.rules.specs.Plans.{Row, pass, fail, undecided, decide, known_a, known_b, known_passes, known_fails, log_of_two}

-- a and b are A and B of row n without their signs: A is below 0 in row 32 alone, and every B is
pub record KnownNumbers (n a b : ℕ) : Type 0 where
  pub A-is : cond (eqb n 32) (neg_ℤ (pos a)) (pos a) ≡ known_a n
  pub B-is : neg_ℤ (pos b) ≡ known_b n

module _ (q n added level t a b : ℕ) (numbers : KnownNumbers n a b) where
  -- D, and the program's three numbers
  abbrev D : ℤ
  D = pos added -ℤ pos (n * level)

  abbrev above : ℕ
  above = added * log_of_two

  abbrev unit : ℕ
  unit = t * 2 ^ q

  abbrev line : ℕ
  line = n * (level * log_of_two)

  -- T × 693,147,181
  left : Diff (neg_ℤ D *ℤ pos log_of_two) (n * level * log_of_two) above
  left = diff-move (diff-mul (diff-neg (diff-minus (diff-pos added) (diff-pos (n * level)))) (diff-pos log_of_two)) (omega arith)

  -- a number of the table × t × 2^q
  right : {z : ℤ} {p m : ℕ} → Diff z p m → Diff (z *ℤ pos t *ℤ pos (2 ^ q)) (p * unit) (m * unit)
  right {z} {p} {m} h = diff-move (diff-mul (diff-mul h (diff-pos t)) (diff-pos (2 ^ q))) (omega arith)

  abbrev decided : Row
  decided = decide (known_passes q n D t) (eqb n 32) (known_fails q n D t)

  module _ (e : n ≡ 32) where
    pub last-passes : above < line + a * unit → pass ≡ decided
    unfolding decide known_passes
    last-passes h = rw (← numbers.A-is, eq-eqb n 32 e, lt_test (right (diff-negpos a)) left (omega arith))

    pub last-fails : line + a * unit ≤ above → fail ≡ decided
    unfolding decide known_passes
    last-fails h = rw (← numbers.A-is, eq-eqb n 32 e, lt_not (right (diff-negpos a)) left (omega arith))

  module _ (e : n ≡ 32 → ⊥) where
    pub passes : above + a * unit < line → pass ≡ decided
    unfolding decide known_passes
    passes h = rw (← numbers.A-is, ne_eqb n 32 e, lt_test (right (diff-pos a)) left (omega arith))

    module _ (h : line ≤ above + a * unit) where
      pub fails : line + b * unit < above → fail ≡ decided
      unfolding decide known_passes known_fails
      fails k = rw (← numbers.A-is, ← numbers.B-is, ne_eqb n 32 e, lt_not (right (diff-pos a)) left (omega arith), lt_test left (right (diff-negpos b)) (omega arith))

      pub opens : above ≤ line + b * unit → undecided ≡ decided
      unfolding decide known_passes known_fails
      opens k = rw (← numbers.A-is, ← numbers.B-is, ne_eqb n 32 e, lt_not (right (diff-pos a)) left (omega arith), lt_not left (right (diff-negpos b)) (omega arith))
