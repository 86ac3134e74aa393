-- The days of a month by its number, as the program asks for it.
use Rattle.arithmetic.proofs.Basics.{ℕ, zero, suc, ◌-◌, ◌≤◌, arith, ◌≡◌, refl, false, ◌||◌, cond, leb, eqb, get_or-eq_default, ne_eqb, le-leb, lt-leb}
use Rattle.rules.specs.Calendar.{leap, months, days}

pub days-by : (y m : ℕ)
    → days y m ≡ cond (eqb m 2) (cond (leap y) 29 28) (cond (eqb m 4 || eqb m 6 || eqb m 9 || eqb m 11) 30 (cond (leb m 12) 31 0))
unfolding days months
days-by y zero = refl
days-by y (suc zero) = refl
days-by y (suc (suc zero)) = refl
days-by y (suc (suc (suc zero))) = refl
days-by y (suc (suc (suc (suc zero)))) = refl
days-by y (suc (suc (suc (suc (suc zero))))) = refl
days-by y (suc (suc (suc (suc (suc (suc zero)))))) = refl
days-by y (suc (suc (suc (suc (suc (suc (suc zero))))))) = refl
days-by y (suc (suc (suc (suc (suc (suc (suc (suc zero)))))))) = refl
days-by y (suc (suc (suc (suc (suc (suc (suc (suc (suc zero))))))))) = refl
days-by y (suc (suc (suc (suc (suc (suc (suc (suc (suc (suc zero)))))))))) = refl
days-by y (suc (suc (suc (suc (suc (suc (suc (suc (suc (suc (suc zero))))))))))) = refl
days-by y (suc (suc (suc (suc (suc (suc (suc (suc (suc (suc (suc (suc zero)))))))))))) = refl
days-by y (suc (suc (suc (suc (suc (suc (suc (suc (suc (suc (suc (suc (suc m))))))))))))) =
    let past = suc (suc (suc (suc (suc (suc (suc (suc (suc (suc (suc (suc (suc m)))))))))))) in
    let other : (k : ℕ) → k ≤ 12 → eqb past k ≡ false = λ k l. ne_eqb past k (λ z. omega arith) in
    rw (other 2 (omega arith), other 4 (omega arith), other 6 (omega arith), other 9 (omega arith), other 11 (omega arith), lt-leb past 12 (omega arith))
    (get_or-eq_default (months y) 0 {n = past - 1} (omega arith))

-- none of the five that have fewer than 31
pub long-month : (y m : ℕ) → m ≤ 12 → (m ≡ 2 → ⊥) → (m ≡ 4 → ⊥) → (m ≡ 6 → ⊥) → (m ≡ 9 → ⊥) → (m ≡ 11 → ⊥) → 31 ≡ days y m
long-month y m h a b c d e = rw (days-by y m, ne_eqb m 2 a, ne_eqb m 4 b, ne_eqb m 6 c, ne_eqb m 9 d, ne_eqb m 11 e, le-leb m 12 h) refl

pub ruleset by_month = days-by
