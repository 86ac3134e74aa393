-- The sums that the program makes of the measurements' logarithms, and what limit and correction add to each and take away: D and W follow
-- from them (proofs/Sums).
use Rattle.std.specs.Prelude.{ℕ, ◌+◌, ◌*◌, List, [], ◌∷◌}
use Rattle.rules.specs.Logarithm.{Correction, g}

module _ (q : ℕ) where
  abbrev pub sum_g : List ℕ → ℕ
  sum_g [] = 0
  sum_g (x ∷ xs) = g q x + sum_g xs

  abbrev pub squares_g : List ℕ → ℕ
  squares_g [] = 0
  squares_g (x ∷ xs) = g q x * g q x + squares_g xs

  -- d_j is g(x_j) + gain − level
  abbrev pub gain : Correction → ℕ
  gain c = g q c.value

  abbrev pub level : (L : ℕ) → Correction → ℕ
  level L c = g q L + g q c.first
