-- Each of the six is the definition's: of a number above 4 only the last two change, and of any other only the first four.
use Rattle.arithmetic.proofs.Basics.{ℕ, ◌≤◌, ◌<◌, arith, ◌≡◌, refl, false, eqb, ne_eqb}
use Rattle.pollutants.specs.Each.{with_lem}
use Rattle.pollutants.proofs.Each.with.Goals as goal

not-above : (p k : ℕ) → 4 < p → k ≤ 4 → eqb p k ≡ false
not-above p k h l = ne_eqb p k (λ e. omega arith)

not-below : (p k : ℕ) → p ≤ 4 → 4 < k → eqb p k ≡ false
not-below p k h l = ne_eqb p k (λ e. omega arith)

pub returns-then-p-gt4 : goal.returns-then-p-gt4
unfolding with_lem
returns-then-p-gt4 g c =
    let h = c.if-p-gt4.true in
    rw (
      c.chosen-then-p-gt4.ensures,
      c.chosen.ensures,
      not-above c.args.p 1 h (omega arith),
      not-above c.args.p 2 h (omega arith),
      not-above c.args.p 3 h (omega arith),
      not-above c.args.p 4 h (omega arith),
    ) refl

pub returns : goal.returns
unfolding with_lem
returns g c =
    let h = c.if-p-gt4.false in
    rw (
      c.chosen-2.ensures,
      c.chosen-3.ensures,
      c.chosen-4.ensures,
      c.chosen-5.ensures,
      not-below c.args.p 5 h (omega arith),
      not-below c.args.p 6 h (omega arith),
    ) refl
