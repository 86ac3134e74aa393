-- The sums that a column makes: with one engine more, and that they stay in their types.
use Rattle.arithmetic.proofs.Basics.{ℕ, ◌+◌, ◌*◌, ◌≤◌, arith, mul-le-mul, mul-le-mul_right, ◌≡◌, refl, true, cond, List, [], ◌∷◌, ◌++◌, ltb, length, length-append}
use Rattle.arithmetic.proofs.Basics.{by-test, those-append}
use mir.Val.{bool_byte}
use Rattle.rules.specs.Logarithm.{Correction, squarings, g}
use Rattle.rules.specs.Plans.{last_row_lem, count_over}
use Rattle.rules.specs.Refusals.{greatest_deviation}
use Rattle.accepted.proofs.Sheets.{last-most}
use Rattle.logarithm.proofs.Bounds.{g-fits}
use Rattle.plan.specs.declared.Plan.{Plan}
use Rattle.plan.specs.Plan.{plan_is}
use Rattle.rows.specs.Sums.{sum_g, squares_g}
use Rattle.rows.proofs.Sums.{cauchy}
use Rattle.statistics.specs.Column.{SumsOf}
use Rattle.statistics.specs.Ranges.{highest, takes_logarithms, RowRange}

-- ---- one more measurement

pub sum-snoc : (xs : List ℕ) (x : ℕ) → sum_g squarings (xs ++ (x ∷ [])) ≡ sum_g squarings xs + g squarings x
sum-snoc [] x = omega arith
sum-snoc (y ∷ xs) x = omega (arith, sum-snoc xs x)

pub squares-snoc : (xs : List ℕ) (x : ℕ) → squares_g squarings (xs ++ (x ∷ [])) ≡ squares_g squarings xs + g squarings x * g squarings x
squares-snoc [] x = omega arith
squares-snoc (y ∷ xs) x = omega (arith, squares-snoc xs x)

pub count-snoc : (L : ℕ) (c : Correction) (xs : List ℕ) (x : ℕ)
    → count_over L c (xs ++ (x ∷ [])) ≡ count_over L c xs + bool_byte (ltb (L * c.first) (x * c.value))
count-snoc L c xs x =
    rw (those-append (λ y. ltb (L * c.first) (y * c.value)) xs (x ∷ []), length-append)
    (by-test (λ t. count_over L c xs + length (cond t (x ∷ []) []) ≡ count_over L c xs + bool_byte t) (ltb (L * c.first) (x * c.value))
    (λ e. refl) (λ e. refl))

-- ---- bounds

sums-most : (xs : List ℕ) → (sum_g squarings xs ≤ length xs * highest) × (squares_g squarings xs ≤ length xs * (highest * highest))
sums-most [] = (omega arith, omega arith)
sums-most (x ∷ xs) =
    let r = sums-most xs in
    let h : g squarings x ≤ highest = omega (arith, g-fits x) in
    (omega (arith, r.0, h), omega (arith, r.1, mul-le-mul h h))

module _ {L : ℕ} {c : Correction} {xs : List ℕ} {n sum squares gain level : ℕ} (s : SumsOf L c xs n sum squares gain level) where
  pub sums-fit : n ≤ 32 → (sum ≤ 32 * highest) × (squares ≤ 32 * (highest * highest))
  sums-fit l =
      let m = sums-most xs in
      let k : length xs ≤ 32 = omega (arith, s.count) in
      (omega (arith, s.sum_is, m.0, mul-le-mul_right highest k), omega (arith, s.squares_is, m.1, mul-le-mul_right (highest * highest) k))

  pub row-range : {plan : Plan} {t : ℕ} → takes_logarithms (plan_is plan) ≡ true → 3 ≤ n → n ≤ last_row_lem (plan_is plan) → t ≤ greatest_deviation
      → RowRange plan n sum squares gain level t
  row-range {plan} logs h k d =
      let l : n ≤ 32 = omega (arith, last-most (plan_is plan)) in
      let f = sums-fit l in
      let u : gain ≤ highest = omega (arith, s.gain_is, g-fits c.value) in
      let v : level ≤ 2 * highest = omega (arith, s.level_is, g-fits L, g-fits c.first) in
      record {
        logs = logs;
        least = h;
        most = k;
        most-of-all = l;
        sum-most = f.0;
        squares-most = mul-le-mul l f.1;
        spread = rw (s.sum_is, s.squares_is, s.count) (cauchy squarings xs);
        gained-most = mul-le-mul l u;
        level-most = v;
        taken-most = mul-le-mul l v;
        deviation-most = d;
      }
