-- `cause_at` meets its contract: there is no engine by that number, or the record that is read is its.
use Rattle.arithmetic.proofs.Basics.{sym, ap, ◌∙◌}
use Rattle.rules.specs.Sheet.{cause}
use Rattle.entering.proofs.Entering.{no-engine, record-fits, cause-is}
use Rattle.entering.proofs.cause_at.Goals as goal

pub returns-then-engine-sheet : goal.returns-then-engine-sheet
returns-then-engine-sheet c = sym (no-engine _ _ _ c.args.sheet.valid c.if-engine-sheet.true)

pub record_at-requires : goal.record_at-requires
record_at-requires c = record { inside = record-fits _ _ _ c.args.sheet.valid c.if-engine-sheet.false }

pub returns : goal.returns
returns c = cause-is _ _ _ c.args.sheet.valid c.if-engine-sheet.false (c.cause_of.ensures.0 ∙ ap cause c.record_at.ensures)
