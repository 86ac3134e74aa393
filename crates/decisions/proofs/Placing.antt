-- A decision in the place of its pollutant's number.
use Rattle.arithmetic.proofs.Basics.{ℕ, zero, suc, arith, ◌≡◌, refl, ne_eqb}
use Rattle.columns.specs.Tally.{put}
use Rattle.pollutants.specs.declared.Each.{Each}
use Rattle.pollutants.specs.Each.{with_lem, each}
use Rattle.decisions.specs.declared.Decision.{Decision}
use Rattle.decisions.specs.Decisions.{decision_is, is_declared, decisions_is, declared_is_lem}

with_each : {A : Type 0} (f : Decision → A) (k : ℕ) (d : Decision) (s : Each Decision) → each f (with_lem s k d) ≡ put k (f d) (each f s)
unfolding with_lem
with_each f zero d s = refl
with_each f (suc zero) d s = refl
with_each f (suc (suc zero)) d s = refl
with_each f (suc (suc (suc zero))) d s = refl
with_each f (suc (suc (suc (suc zero)))) d s = refl
with_each f (suc (suc (suc (suc (suc zero))))) d s = refl
with_each f (suc (suc (suc (suc (suc (suc zero)))))) d s = refl
with_each f (suc (suc (suc (suc (suc (suc (suc k))))))) d s =
    let n : ℕ = suc (suc (suc (suc (suc (suc (suc k)))))) in
    rw (ne_eqb n 1 (λ z. omega arith), ne_eqb n 2 (λ z. omega arith), ne_eqb n 3 (λ z. omega arith))
    (rw (ne_eqb n 4 (λ z. omega arith), ne_eqb n 5 (λ z. omega arith), ne_eqb n 6 (λ z. omega arith)) refl)

module _ (k : ℕ) (d : Decision) (s : Each Decision) where
  pub with-decisions : decisions_is (with_lem s k d) ≡ put k (decision_is d) (decisions_is s)
  with-decisions = with_each decision_is k d s

  pub with-declared : declared_is_lem (with_lem s k d) ≡ put k (is_declared d) (declared_is_lem s)
  with-declared = with_each is_declared k d s
