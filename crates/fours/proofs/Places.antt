-- Each logarithm of a column stands in its place of the fours.
use Rattle.arithmetic.proofs.Basics.{ℕ, zero, suc, ◌+◌, ◌*◌, ◌/◌, ◌%◌, ◌<◌, arith, div-add-mod, ◌≡◌, refl, ap, ◌∙◌, cond, List, ltb, get_or, ltb-true, lt-ltb}
use Rattle.arithmetic.proofs.Basics.{by-test}
use Rattle.rules.specs.Logarithm.{squarings, g}
use Rattle.logarithm.specs.Four.{Measured}
use Rattle.fours.specs.Fours.{measured_at, measured_or, four_from, Logs, MeasuredRange}

module _ (w : ℕ) (b : List ℕ) (start p rows : ℕ) where
  pub measured-in : {i : ℕ} → i < rows → measured_or w b start p rows i ≡ measured_at w b start p i
  unfolding measured_or
  measured-in {i} h = rw (lt-ltb i rows h) refl

  pub or-ranges : MeasuredRange w b start p rows → (i : ℕ) → Measured (measured_or w b start p rows i)
  unfolding measured_or
  or-ranges r i =
      by-test (λ t. ltb i rows ≡ t → Measured (cond t (measured_at w b start p i) 1)) (ltb i rows)
      (λ e f. r.measures i (ltb-true i rows f)) (λ e f. (omega arith, omega arith)) refl

  -- row k + 1 in place r of four number m, which begins with an engine's measurement or, at 0, with the limit
  place : (first m r k : ℕ) → (4 * m ≡ k + 1 → first ≡ measured_at w b start p k) → r < 4 → k + 1 ≡ 4 * m + r → k < rows
      → get_or (four_from w b start p first rows (4 * m)) r 0 ≡ g squarings (measured_at w b start p k)
  place first m zero k f h e l = ap (g squarings) (f (omega arith))
  place first m (suc zero) k f h e l = let z : k ≡ 4 * m = omega arith in rw (← z) (ap (g squarings) (measured-in l))
  place first m (suc (suc zero)) k f h e l = let z : k ≡ 4 * m + 1 = omega arith in rw (← z) (ap (g squarings) (measured-in l))
  place first m (suc (suc (suc zero))) k f h e l = let z : k ≡ 4 * m + 2 = omega arith in rw (← z) (ap (g squarings) (measured-in l))
  place first m (suc (suc (suc (suc r)))) k f h e l = absurd (omega arith)

  pub place_is : (first i n : ℕ) → i ≡ 4 * (n / 4) → ((k : ℕ) → i ≡ k + 1 → first ≡ measured_at w b start p k) → {logs : List ℕ}
      → logs ≡ four_from w b start p first rows i → Logs logs w b start p rows n
  place_is first i n e f q =
      rw (q, e)
      (record {
        room = refl;
        each = λ k d l. place first (n / 4) ((k + 1) % 4) k (λ z. f k (e ∙ z)) (omega arith) (omega (arith, div-add-mod (k + 1) 4)) l;
      })
