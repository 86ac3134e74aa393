-- A row that passes or fails decides the column, and past any other it is open.
use Rattle.arithmetic.proofs.Basics.{arith, refl}
use Rattle.statistics.proofs.Going.{in-engines, measured-range}
use Rattle.statistics.proofs.Summing.{level-few, summed-none, sum-few, squares-few, summed-range, sums-told, sums-skip, summed-next, summed-all}
use Rattle.statistics.proofs.logarithms.column.Goals as goal
use Rattle.statistics.proofs.logarithms.column.Goals.{then-first-n+in-Open, else-first-n}

pub first_row-first-requires : goal.first_row-first-requires
first_row-first-requires c =
    let p = c.requires.logarithms_range.corrected in
    record { some = omega (arith, p.least, in-engines c.args.sheet.accepted p.column) }

pub invariant_of-column : goal.invariant_of-column
invariant_of-column c = record { in_range = measured-range c.args.sheet.accepted c.requires.logarithms_range.corrected.column }

pub overflow_cast-level : goal.overflow_cast-level
overflow_cast-level c = omega (arith, level-few c.args.sheet.accepted c.requires.logarithms_range c.put_four.ensures refl)

pub overflow_add-level : goal.overflow_add-level
overflow_add-level c = omega (arith, level-few c.args.sheet.accepted c.requires.logarithms_range c.put_four.ensures c.log2_of.ensures)

pub loop-i-init : goal.loop-i-init
loop-i-init c = summed-none c.args.sheet.accepted c.requires.logarithms_range c.put_four.ensures c.log2_of.ensures c.log2_of-gain.ensures

pub overflow_cast-y : goal.overflow_cast-y
overflow_cast-y c = omega (arith, sum-few c.args.sheet.accepted c.requires.logarithms_range c.loop-i.invariant c.loop-i-test.true c.four_with.ensures)

pub overflow_add-sum : goal.overflow_add-sum
overflow_add-sum c = omega (arith, sum-few c.args.sheet.accepted c.requires.logarithms_range c.loop-i.invariant c.loop-i-test.true c.four_with.ensures)

pub overflow_mul-squares : goal.overflow_mul-squares
overflow_mul-squares c = omega (arith, squares-few c.args.sheet.accepted c.requires.logarithms_range c.loop-i.invariant c.loop-i-test.true c.four_with.ensures)

pub overflow_add-squares : goal.overflow_add-squares
overflow_add-squares c = omega (arith, squares-few c.args.sheet.accepted c.requires.logarithms_range c.loop-i.invariant c.loop-i-test.true c.four_with.ensures)

pub row-requires : goal.row-requires
row-requires c =
    rw c.requires.own (summed-range c.args.sheet.accepted c.requires.logarithms_range c.loop-i.invariant c.loop-i-test.true c.four_with.ensures c.first_row-first.ensures (omega (arith, c.if-first-n.true)))

pub overflow_cast-result : goal.overflow_cast-result
overflow_cast-result c = omega (arith, c.loop-i-test.true, in-engines c.args.sheet.accepted c.requires.logarithms_range.corrected.column)

pub returns-in-Pass : goal.returns-in-Pass
returns-in-Pass c =
    sums-told c.args.sheet.accepted c.requires.logarithms_range c.loop-i.invariant c.loop-i-test.true c.four_with.ensures c.first_row-first.ensures
    (omega (arith, c.if-first-n.true)) (rw c.requires.own at c.row.ensures) c.in-Pass.is

pub overflow_cast-result-in-Fail : goal.overflow_cast-result-in-Fail
overflow_cast-result-in-Fail c = omega (arith, c.loop-i-test.true, in-engines c.args.sheet.accepted c.requires.logarithms_range.corrected.column)

pub returns-in-Fail : goal.returns-in-Fail
returns-in-Fail c =
    sums-told c.args.sheet.accepted c.requires.logarithms_range c.loop-i.invariant c.loop-i-test.true c.four_with.ensures c.first_row-first.ensures
    (omega (arith, c.if-first-n.true)) (rw c.requires.own at c.row.ensures) c.in-Fail.is

pub loop-i-preserved : goal.loop-i-preserved
loop-i-preserved c =
    summed-next c.args.sheet.accepted c.requires.logarithms_range c.loop-i.invariant c.loop-i-test.true c.four_with.ensures
    (elim c.if-first-n.branch [
      | then-first-n+in-Open w ↦
          sums-told c.args.sheet.accepted c.requires.logarithms_range c.loop-i.invariant c.loop-i-test.true c.four_with.ensures c.first_row-first.ensures
          (omega (arith, w.if-first-n.true)) (rw c.requires.own at w.row.ensures) w.in-Open.is
      | else-first-n w ↦
          sums-skip c.args.sheet.accepted c.requires.logarithms_range c.loop-i.invariant c.loop-i-test.true c.four_with.ensures c.first_row-first.ensures (omega (arith, w.if-first-n.false))
    ])

pub returns : goal.returns
returns c = summed-all c.args.sheet.accepted c.requires.logarithms_range c.loop-i.invariant c.loop-i-test.false
