-- The tests of plans 2, 4 and 5 on integers, as the tests on naturals that the program makes.
use Rattle.arithmetic.proofs.Basics.{◌≡◌, ◌∙◌, true, false, not, ℕ, ◌+◌, ◌*◌, ◌≤◌, arith, ltb, leb, ℤ, pos, ◌-ℤ◌, ◌*ℤ◌, not-ltb, nat_abs, lt_z}
use Rattle.arithmetic.proofs.Integers.{Diff, diff-pos, diff-minus, diff-mul, diff-move, diff-below, diff-above, diff-leb, le_test, le_not}
use Rattle.rules.specs.Plans.{at_most_root, at_least_root, root_passes, root_fails}

-- D without its sign, W
module _ (k w added taken : ℕ) where
  abbrev P : ℕ
  P = 100000 * k

  abbrev D : ℤ
  D = pos added -ℤ pos taken

  P-low : taken ≡ added + k → Diff (pos 100000 *ℤ D) 0 P
  P-low h = diff-move (diff-mul (diff-pos 100000) (diff-minus (diff-pos added) (diff-pos taken))) (omega arith)

  P-high : added ≡ taken + k → Diff (pos 100000 *ℤ D) P 0
  P-high h = diff-move (diff-mul (diff-pos 100000) (diff-minus (diff-pos added) (diff-pos taken))) (omega arith)

  -- x²W, for a number x of the table without its sign
  line : (x : ℕ) {z : ℤ} → Diff z (x * x) 0 → Diff (z *ℤ pos w) (x * x * w) 0
  line x h = diff-move (diff-mul h (diff-pos w)) (omega arith)

  module _ (A : ℤ) where
    abbrev a : ℕ
    a = nat_abs A

    -- "For A < 0, P ≤ A√W means P ≤ 0 and P² ≥ A²W"
    module _ (s : lt_z A (pos 0) ≡ true) where
      pub negative-low : taken ≡ added + k → leb (a * a * w) (P * P) ≡ root_passes A D (pos w)
      unfolding root_passes at_most_root
      negative-low l =
          let e = P-low l in
          let z = diff-below A s in
          rw (s, le_test e (diff-pos 0) (omega arith))
          (diff-leb (line a (diff-move (diff-mul z z) (omega arith))) (diff-mul e e) (a * a * w) (P * P) (omega arith))

      pub negative-high : 1 ≤ k → added ≡ taken + k → root_passes A D (pos w) ≡ false
      unfolding root_passes at_most_root
      negative-high h l = rw (s, le_not (P-high l) (diff-pos 0) (omega arith))

    -- "for A ≥ 0, P ≤ 0 or P² ≤ A²W"
    module _ (s : lt_z A (pos 0) ≡ false) where
      pub most-low : taken ≡ added + k → root_passes A D (pos w) ≡ true
      unfolding root_passes at_most_root
      most-low l = rw (s, le_test (P-low l) (diff-pos 0) (omega arith))

      pub most-high : 1 ≤ k → added ≡ taken + k → not (ltb (a * a * w) (P * P)) ≡ root_passes A D (pos w)
      unfolding root_passes at_most_root
      most-high h l =
          let e = P-high l in
          let z = diff-above A s in
          not-ltb (a * a * w) (P * P)
          ∙ rw (s, le_not e (diff-pos 0) (omega arith))
          (diff-leb (diff-mul e e) (line a (diff-move (diff-mul z z) (omega arith))) (P * P) (a * a * w) (omega arith))

  -- "P ≥ B√W means P ≥ 0 and P² ≥ B²W"
  module _ (b : ℕ) where
    pub least-high : added ≡ taken + k → leb (b * b * w) (P * P) ≡ root_fails (pos b) D (pos w)
    unfolding root_fails at_least_root
    least-high l =
        let e = P-high l in
        rw (le_test (diff-pos 0) e (omega arith))
        (diff-leb (line b (diff-move (diff-mul (diff-pos b) (diff-pos b)) (omega arith))) (diff-mul e e) (b * b * w) (P * P) (omega arith))

    pub least-low : 1 ≤ k → taken ≡ added + k → root_fails (pos b) D (pos w) ≡ false
    unfolding root_fails at_least_root
    least-low h l = rw (le_not (diff-pos 0) (P-low l) (omega arith))
