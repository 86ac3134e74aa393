-- The record before the first engine's tells whether there are run-in values.
use Rattle.arithmetic.proofs.Basics.{arith, ne_eqb, rules}
use Rattle.accepted.proofs.Ranges.{number_in}
use Rattle.accepted.proofs.Sheets.{clean, headed, inside, record-inside}
use Rattle.corrections.proofs.Correcting.{run_in, plain}
use Rattle.corrections.proofs.correction_of.Goals.{then-kind_of, else-kind_of}
use Rattle.corrections.proofs.correction_of.Goals as goal

pub overflow_sub-sheet : goal.overflow_sub-sheet
overflow_sub-sheet c = headed c.args.sheet.accepted

pub record_at-r-requires : goal.record_at-r-requires
record_at-r-requires c = record { inside = record-inside _ _ _ _ (inside c.args.sheet.accepted) (omega (arith, c.requires.tested)) }

pub measurement_at-requires : goal.measurement_at-requires
measurement_at-requires c = record {
  inside = record-inside _ _ _ _ (inside c.args.sheet.accepted) (omega (arith, c.requires.tested));
  measured = (number_in _ _ (clean c.args.sheet.accepted) _ c.requires.declared).1;
}

pub invariant_of-result : goal.invariant_of-result
invariant_of-result c =
    let k = rw c.record_at-r.ensures at c.kind_of.ensures.0 in
    elim c.if-kind_of.branch [
      | then-kind_of w ↦
          let n = run_in c.args.sheet.accepted c.requires.tested c.requires.declared k w.if-kind_of.true (rw c.record_at-r.ensures at w.measurement_of.ensures) w.measurement_at.ensures in
          rw w.result-is (record { value_in_range = n.value; first_in_range = n.first })
      | else-kind_of w ↦ rw w.result-is (search rules)
    ]

pub returns : goal.returns
returns c =
    let k = rw c.record_at-r.ensures at c.kind_of.ensures.0 in
    elim c.if-kind_of.branch [
      | then-kind_of w ↦ rw w.result-is (run_in c.args.sheet.accepted c.requires.tested c.requires.declared k w.if-kind_of.true (rw c.record_at-r.ensures at w.measurement_of.ensures) w.measurement_at.ensures).is
      | else-kind_of w ↦ rw w.result-is (plain c.args.sheet.accepted k (ne_eqb _ _ w.if-kind_of.false)).is
    ]
