-- A row of the definition from the sums that the program makes, for every number q of squarings: by the definitions of the sums, and from
-- numbers equal to them.
use Rattle.arithmetic.proofs.Basics.{◌≡◌, refl, sym, true, never, List, ℕ, ◌+◌, ◌-◌, ◌*◌, eqb, length, ℤ, pos, ◌-ℤ◌}
use Rattle.rules.specs.Logarithm.{Correction}
use Rattle.rules.specs.Plans.{Plan, known_deviation_lem, unknown_deviation_lem, attributes, in_service_lem, corrected, last_row_lem, row, row_passes, row_fails, decide, known_passes, known_fails}
use Rattle.rules.specs.Plans.{root_passes, root_fails, attributes_passes, attributes_fails, count_over}
use Rattle.tables.specs.Tables.{numbers_of_lem, compares_roots}
use Rattle.rows.specs.Sums.{sum_g, squares_g, gain, level}
use Rattle.rows.proofs.Sums.{D-is, W-is}

module _ (q L t : ℕ) (c : Correction) (xs : List ℕ) where
  abbrev n : ℕ
  n = length xs

  abbrev D : ℤ
  D = pos (sum_g q xs + length xs * gain q c) -ℤ pos (length xs * level q L c)

  abbrev W : ℤ
  W = pos (length xs * squares_g q xs - sum_g q xs * sum_g q xs)

  pub known-row-is : row known_deviation_lem q n L t c xs ≡ decide (known_passes q n D t) (eqb n (last_row_lem known_deviation_lem)) (known_fails q n D t)
  unfolding row row_passes row_fails
  known-row-is = rw (D-is q L c xs)

  -- plans 2, 4 and 5
  pub root-row-is : (plan : Plan) → compares_roots plan ≡ true
      → row plan q n L t c xs ≡ decide (root_passes (numbers_of_lem plan n).A D W) (eqb n (last_row_lem plan)) (root_fails (numbers_of_lem plan n).B D W)
  unfolding row row_passes row_fails
  root-row-is known_deviation_lem r = never (sym r)
  root-row-is unknown_deviation_lem r = rw (W-is q L c xs, D-is q L c xs)
  root-row-is attributes r = never (sym r)
  root-row-is in_service_lem r = rw (W-is q L c xs, D-is q L c xs)
  root-row-is corrected r = rw (W-is q L c xs, D-is q L c xs)

  pub attributes-row-is : row attributes q n L t c xs ≡ decide (attributes_passes n (count_over L c xs)) (eqb n (last_row_lem attributes)) (attributes_fails n (count_over L c xs))
  unfolding row row_passes row_fails
  attributes-row-is = refl
