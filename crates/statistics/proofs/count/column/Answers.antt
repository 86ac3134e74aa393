-- A row that passes or fails decides the column, and past any other it is open.
use Rattle.arithmetic.proofs.Basics.{◌+◌, arith}
use Rattle.plan.specs.declared.Plan.TheVariants.{Attributes}
use Rattle.tested.proofs.Tested.{of-plan}
use Rattle.statistics.proofs.Going.{early-open, in-engines, place-fits, place_inside}
use Rattle.statistics.proofs.Counting.{counted-none, over-few, count-told, counted-next, counted-all}
use Rattle.statistics.proofs.count.column.Goals as goal
use Rattle.statistics.proofs.count.column.Goals.{then-n-ge3+in-Open, else-n-ge3}

-- the place of a measurement is a small number, and the bytes have it
pub overflow_mul-at : goal.overflow_mul-at
overflow_mul-at c = rw c.bytes.ensures (omega (arith, place-fits (of-plan c.args.sheet c.requires.counts) c.requires.corrected.column {n = 0} (omega arith)))

pub overflow_add-at : goal.overflow_add-at
overflow_add-at c = rw c.bytes.ensures (omega (arith, place-fits (of-plan c.args.sheet c.requires.counts) c.requires.corrected.column {n = 0} (omega arith)))

pub u32_present-requires : goal.u32_present-requires
u32_present-requires c = record { inside = omega (arith, c.loop-i.invariant.place, place_inside (of-plan c.args.sheet c.requires.counts) c.requires.corrected.column c.loop-i-test.true) }

pub overflow_add-at-in-loop-i : goal.overflow_add-at-in-loop-i
overflow_add-at-in-loop-i c =
    omega (arith, c.bytes-at.ensures, c.loop-i.invariant.place, place-fits (of-plan c.args.sheet c.requires.counts) c.requires.corrected.column {n = c.loop-i.i + 1} (omega (arith, c.loop-i-test.true)))

pub loop-i-init : goal.loop-i-init
loop-i-init c = counted-none (of-plan c.args.sheet c.requires.counts) c.requires.corrected (rw c.bytes.ensures (omega arith))

pub overflow_add-over : goal.overflow_add-over
overflow_add-over c =
    omega (arith, over-few (of-plan c.args.sheet c.requires.counts) c.requires.corrected c.loop-i.invariant c.loop-i-test.true c.u32_present.ensures _ c.most_uncounted-most.ensures)

pub attributes_row-requires-clause-row_range : goal.attributes_row-requires-clause-row_range
attributes_row-requires-clause-row_range c = record { least = c.if-n-ge3.true; most = omega (arith, c.loop-i-test.true, in-engines (of-plan c.args.sheet c.requires.counts) c.requires.corrected.column) }

pub overflow_cast-result : goal.overflow_cast-result
overflow_cast-result c = omega (arith, c.loop-i-test.true, in-engines (of-plan c.args.sheet c.requires.counts) c.requires.corrected.column)

pub returns-in-Pass : goal.returns-in-Pass
returns-in-Pass c =
    count-told (of-plan c.args.sheet c.requires.counts) c.requires.corrected
    c.loop-i.invariant c.loop-i-test.true c.u32_present.ensures _ c.most_uncounted-most.ensures c.if-n-ge3.true c.attributes_row.ensures c.in-Pass.is

pub overflow_cast-result-in-Fail : goal.overflow_cast-result-in-Fail
overflow_cast-result-in-Fail c = omega (arith, c.loop-i-test.true, in-engines (of-plan c.args.sheet c.requires.counts) c.requires.corrected.column)

pub returns-in-Fail : goal.returns-in-Fail
returns-in-Fail c =
    count-told (of-plan c.args.sheet c.requires.counts) c.requires.corrected
    c.loop-i.invariant c.loop-i-test.true c.u32_present.ensures _ c.most_uncounted-most.ensures c.if-n-ge3.true c.attributes_row.ensures c.in-Fail.is

pub loop-i-preserved : goal.loop-i-preserved
loop-i-preserved c =
    counted-next (of-plan c.args.sheet c.requires.counts) c.requires.corrected
    c.loop-i.invariant c.loop-i-test.true c.u32_present.ensures _ c.most_uncounted-most.ensures c.bytes-at.ensures
    (elim c.if-n-ge3.branch [
      | then-n-ge3+in-Open w ↦
          count-told (of-plan c.args.sheet c.requires.counts) c.requires.corrected
          c.loop-i.invariant c.loop-i-test.true c.u32_present.ensures _ c.most_uncounted-most.ensures w.if-n-ge3.true w.attributes_row.ensures w.in-Open.is
      | else-n-ge3 w ↦ λ t. early-open _ Attributes _ _ _ t _ w.if-n-ge3.false
    ])

pub returns : goal.returns
returns c = counted-all (of-plan c.args.sheet c.requires.counts) c.requires.corrected c.loop-i.invariant c.loop-i-test.false
