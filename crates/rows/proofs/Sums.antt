-- D and W from the sums that the program makes, for every number q of squarings; W is the same for every limit and correction, and never
-- negative.
use Rattle.arithmetic.proofs.Basics.{◌≡◌, sym, ap, ◌∙◌, true, List, [], ◌∷◌, map, ℕ, ◌+◌, ◌-◌, ◌*◌, ◌≤◌, arith, leb-zero, length, pos, ◌-ℤ◌, le_z, twice}
use Rattle.arithmetic.proofs.Integers.{Diff, diff-pos, diff-add, diff-minus, diff-mul, diff-move, diff-eq}
use Rattle.rules.specs.Tools.{total, square}
use Rattle.rules.specs.Logarithm.{Correction, g, d, D, W}
use Rattle.rows.specs.Sums.{sum_g, squares_g, gain, level}

module _ (q : ℕ) where
  -- ---- the square of the sum is at most the number times the squares

  cross : (a : ℕ) (xs : List ℕ) → 2 * (a * sum_g q xs) ≤ length xs * (a * a) + squares_g q xs
  cross a [] = omega arith
  cross a (x ∷ xs) = omega (arith, cross a xs, twice a (g q x))

  pub cauchy : (xs : List ℕ) → sum_g q xs * sum_g q xs ≤ length xs * squares_g q xs
  cauchy [] = omega arith
  cauchy (x ∷ xs) = omega (arith, cauchy xs, cross (g q x) xs)

  -- ---- D and W

  module _ (L : ℕ) (c : Correction) where
    d-diff : (x : ℕ) → Diff (d q L c x) (g q x + gain q c) (level q L c)
    d-diff x =
        let e = diff-add (diff-pos (g q x)) (diff-pos (gain q c)) in
        diff-move (diff-minus (diff-minus e (diff-pos (g q c.first))) (diff-pos (g q L))) (omega arith)

    D-diff : (xs : List ℕ) → Diff (D q L c xs) (sum_g q xs + length xs * gain q c) (length xs * level q L c)
    unfolding total
    D-diff [] = diff-move (diff-pos 0) (omega arith)
    D-diff (x ∷ xs) = diff-move (diff-add (d-diff x) (D-diff xs)) (omega arith)

    squares-diff : (xs : List ℕ)
        → Diff (total (map (λ x. square (d q L c x)) xs))
        (squares_g q xs + 2 * (gain q c * sum_g q xs) + length xs * (gain q c * gain q c + level q L c * level q L c))
        (2 * (level q L c * sum_g q xs) + 2 * (length xs * (gain q c * level q L c)))
    unfolding total
    squares-diff [] = diff-move (diff-pos 0) (omega arith)
    squares-diff (x ∷ xs) = diff-move (diff-add (diff-mul (d-diff x) (d-diff x)) (squares-diff xs)) (omega arith)

    W-diff : (xs : List ℕ) → Diff (W q L c xs) (length xs * squares_g q xs) (sum_g q xs * sum_g q xs)
    W-diff xs =
        let s = D-diff xs in
        diff-move (diff-minus (diff-mul (diff-pos (length xs)) (squares-diff xs)) (diff-mul s s)) (omega arith)

    pub D-is : (xs : List ℕ) → D q L c xs ≡ pos (sum_g q xs + length xs * gain q c) -ℤ pos (length xs * level q L c)
    D-is xs = diff-eq (D-diff xs) (diff-minus (diff-pos (sum_g q xs + length xs * gain q c)) (diff-pos (length xs * level q L c))) (omega arith)

    pub W-is : (xs : List ℕ) → W q L c xs ≡ pos (length xs * squares_g q xs - sum_g q xs * sum_g q xs)
    W-is xs = diff-eq (W-diff xs) (diff-pos (length xs * squares_g q xs - sum_g q xs * sum_g q xs)) (omega (arith, cauchy xs))

    -- "W = .., never negative"
    pub W-never-negative : (xs : List ℕ) → le_z (pos 0) (W q L c xs) ≡ true
    W-never-negative xs = ap (le_z (pos 0)) (W-is xs) ∙ leb-zero (length xs * squares_g q xs - sum_g q xs * sum_g q xs)

  -- W moves with no constant: limit and correction add the same to every d_j, and it stays
  pub W-same : (L M : ℕ) (c e : Correction) (xs : List ℕ) → W q L c xs ≡ W q M e xs
  W-same L M c e xs = W-is L c xs ∙ sym (W-is M e xs)
