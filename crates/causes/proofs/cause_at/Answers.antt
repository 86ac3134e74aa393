-- The record that is read is the engine's.
use Rattle.arithmetic.proofs.Basics.{arith, ◌∙◌, sym, ap}
use Rattle.rules.specs.Sheet.{cause}
use Rattle.accepted.proofs.Sheets.{engine-is, few, inside, record-inside}
use Rattle.causes.proofs.cause_at.Goals as goal

pub overflow_add-sheet : goal.overflow_add-sheet
overflow_add-sheet c = omega (arith, c.requires.some, few c.args.sheet.accepted)

pub record_at-requires : goal.record_at-requires
record_at-requires c = record { inside = record-inside _ _ _ _ (inside c.args.sheet.accepted) (omega (arith, c.requires.some)) }

pub returns : goal.returns
returns c = c.cause_of.ensures.0 ∙ ap cause (c.record_at.ensures ∙ sym (engine-is c.args.sheet.accepted c.args.k (omega (arith, c.requires.some))))
