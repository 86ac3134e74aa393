-- Plan 1's row at the document's number of squarings, with the numbers that the table has for it.
use Rattle.arithmetic.proofs.Basics.{◌≡◌, ap, ◌∙◌, refl, ℕ, ◌-◌, ◌*◌, ◌^◌, ◌≤◌, arith, mul-le-mul, mul-le-mul_right, List, ℤ, nat_abs}
use Rattle.rules.specs.Logarithm.{squarings}
use Rattle.rules.specs.Plans.{known_deviation_lem, known_a, known_b}
use Rattle.rules.specs.Refusals.{greatest_deviation}
use Rattle.plan.specs.declared.Plan as program
use Rattle.plan.specs.Plan.{plan_is}
use Rattle.tables.specs.Tables.{Lent, entry_at, known_most}
use Rattle.tables.proofs.TableRows.{known-A, known-B, known-most}
use Rattle.rows.specs.Ranges.{KnownRanges}
use Rattle.rows.proofs.KnownTests.{KnownNumbers, last-passes, last-fails, passes, fails, opens}
use Rattle.rows.proofs.Read.{read, A-read, B-read}
use Rattle.rows.proofs.known_row.Goals as goal

module _ {plan : program.Plan} {n added level deviation : ℕ} (ranges : KnownRanges plan n added level deviation) where
  -- both numbers of the row without their signs, as they are read
  module _ {t : List (List ℤ)} (holds : Lent (plan_is plan) t) {r u : ℕ} (from : r ≡ u) where
    lent : Lent known_deviation_lem t
    lent = rw ranges.known at holds

    a-is : u ≡ nat_abs (read (entry_at t (n - 3) 0)) → r ≡ nat_abs (known_a n)
    a-is e = from ∙ e ∙ ap nat_abs (A-read lent ranges.least ranges.most (omega (arith, (known-most ranges.least ranges.most).0)))

    b-is : u ≡ nat_abs (read (entry_at t (n - 3) 1)) → r ≡ nat_abs (known_b n)
    b-is e = from ∙ e ∙ ap nat_abs (B-read lent ranges.least ranges.most (omega (arith, (known-most ranges.least ranges.most).1)))

  numbers : {a b : ℕ} → a ≡ nat_abs (known_a n) → b ≡ nat_abs (known_b n) → KnownNumbers n a b
  numbers e f = rw (e, f) (record { A-is = known-A ranges.least ranges.most; B-is = known-B ranges.least ranges.most })

  -- what the row's products come to at most
  abbrev most : ℕ
  most = known_most * (greatest_deviation * 2 ^ squarings)

  unit-most : {a : ℕ} → a ≤ known_most → a * (deviation * 2 ^ squarings) ≤ most
  unit-most l = mul-le-mul l (mul-le-mul_right (2 ^ squarings) ranges.deviation-most)

  a-most : {a : ℕ} → a ≡ nat_abs (known_a n) → a * (deviation * 2 ^ squarings) ≤ most
  a-most e = unit-most (rw e (known-most ranges.least ranges.most).0)

  b-most : {b : ℕ} → b ≡ nat_abs (known_b n) → b * (deviation * 2 ^ squarings) ≤ most
  b-most e = unit-most (rw e (known-most ranges.least ranges.most).1)

pub overflow_mul-pass : goal.overflow_mul-pass
overflow_mul-pass c =
    let k = c.requires in
    omega (arith, a-most k (a-is k c.args.table.holds c.from.ensures c.unsigned_abs.ensures.value))

pub returns-then-above-line : goal.returns-then-above-line
returns-then-above-line c =
    let k = c.requires in
    let a = a-is k c.args.table.holds c.from.ensures c.unsigned_abs.ensures.value in
    last-passes squarings _ _ _ _ _ _ (numbers k a refl) c.if-n.true c.if-above-line.true

pub returns-else-above-line : goal.returns-else-above-line
returns-else-above-line c =
    let k = c.requires in
    let a = a-is k c.args.table.holds c.from.ensures c.unsigned_abs.ensures.value in
    last-fails squarings _ _ _ _ _ _ (numbers k a refl) c.if-n.true c.if-above-line.false

pub overflow_add-above : goal.overflow_add-above
overflow_add-above c =
    let k = c.requires in
    omega (arith, k.added-most, a-most k (a-is k c.args.table.holds c.from.ensures c.unsigned_abs.ensures.value))

pub returns-then-above-pass : goal.returns-then-above-pass
returns-then-above-pass c =
    let k = c.requires in
    let a = a-is k c.args.table.holds c.from.ensures c.unsigned_abs.ensures.value in
    passes squarings _ _ _ _ _ _ (numbers k a refl) c.if-n.false c.if-above-pass.true

pub overflow_mul-fail : goal.overflow_mul-fail
overflow_mul-fail c =
    let k = c.requires in
    omega (arith, b-most k (b-is k c.args.table.holds c.from-2.ensures c.unsigned_abs-2.ensures.value))

pub overflow_add-line-2 : goal.overflow_add-line-2
overflow_add-line-2 c =
    let k = c.requires in
    let line = mul-le-mul k.most k.level-most in
    omega (arith, line, b-most k (b-is k c.args.table.holds c.from-2.ensures c.unsigned_abs-2.ensures.value))

pub returns-then-line-fail : goal.returns-then-line-fail
returns-then-line-fail c =
    let k = c.requires in
    let a = a-is k c.args.table.holds c.from.ensures c.unsigned_abs.ensures.value in
    let b = b-is k c.args.table.holds c.from-2.ensures c.unsigned_abs-2.ensures.value in
    fails squarings _ _ _ _ _ _ (numbers k a b) c.if-n.false c.if-above-pass.false c.if-line-fail.true

pub returns : goal.returns
returns c =
    let k = c.requires in
    let a = a-is k c.args.table.holds c.from.ensures c.unsigned_abs.ensures.value in
    let b = b-is k c.args.table.holds c.from-2.ensures c.unsigned_abs-2.ensures.value in
    opens squarings _ _ _ _ _ _ (numbers k a b) c.if-n.false c.if-above-pass.false c.if-line-fail.false
