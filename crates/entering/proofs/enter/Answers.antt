-- A size that there is not, the sheet's own refusal, 23, 24, or the two bytes of the cause.
use Rattle.std.proofs.lemmas.Result.{err_from_is_err_and}
use Rattle.std.specs.Prelude.{Err}
use Rattle.arithmetic.proofs.Basics.{arith, sym, ap, ◌∙◌, length, length-set}
use Rattle.checking.proofs.Laws.{valid}
use Rattle.entering.proofs.Entering.{Placed, placed, not-pending, bad-finding, wrote}
use Rattle.entering.proofs.Entering.{enter-unknown, enter-known, enter-refused, enter-checked}
use Rattle.entering.proofs.enter.Goals as goal

pub returns-in_err-size : goal.returns-in_err-size
returns-in_err-size c =
    let p = err_from_is_err_and c.from_residual.result c.from_residual.ensures.1 in
    let k = enter-unknown _ c.args.sheet.now c.args.engine c.args.finding c.try_from.ensures c.in_err-size.was (p.1 ∙ ap Err p.2) in
    record { result_value = k.0; sheet_after = k.1 }

pub returns-in_default : goal.returns-in_default
returns-in_default c =
    let k = enter-checked _ c.args.sheet.now c.args.engine c.args.finding c.try_from.ensures c.in_ok-size.was c.check_sheet-checked.ensures c.in_default.is c.checked_outcome.ensures in
    record { result_value = k.0; sheet_after = k.1 }

-- the check accepts the sheet where the cause is asked
pub invariant_of-accepted : goal.invariant_of-accepted
invariant_of-accepted c = record { valid = valid _ _ c.check_sheet-checked.ensures c.in-Ok.is }

pub returns-then-cause-ne-PENDING : goal.returns-then-cause-ne-PENDING
returns-then-cause-ne-PENDING c =
    let v = valid _ _ c.check_sheet-checked.ensures c.in-Ok.is in
    let k = enter-refused _ c.args.sheet.now c.args.engine c.args.finding c.try_from.ensures c.in_ok-size.was c.into.ensures
    (not-pending c.in_ok-size.size _ _ _ v c.cause_at-cause.ensures c.if-cause-ne-PENDING.true) in
    record { result_value = k.0; sheet_after = k.1 }

pub returns-then-finding : goal.returns-then-finding
returns-then-finding c =
    let v = valid _ _ c.check_sheet-checked.ensures c.in-Ok.is in
    let k = enter-refused _ c.args.sheet.now c.args.engine c.args.finding c.try_from.ensures c.in_ok-size.was c.into-then-finding.ensures
    (bad-finding c.in_ok-size.size _ _ _ v c.cause_at-cause.ensures c.if-cause-ne-PENDING.false c.if-finding.true) in
    record { result_value = k.0; sheet_after = k.1 }

-- the place of the cause is in the sheet
pub overflow_sub-at : goal.overflow_sub-at
overflow_sub-at c =
    let v = valid _ _ c.check_sheet-checked.ensures c.in-Ok.is in
    let p : Placed c.bytes.result c.in-Ok.said.head c.args.engine (length c.args.sheet.now) =
    placed c.in_ok-size.size _ _ v (sym c.cause_at-cause.ensures ∙ c.if-cause-ne-PENDING.false) c.bytes.ensures in
    p.counted

pub bounds-sheet-at : goal.bounds-sheet-at
bounds-sheet-at c =
    let v = valid _ _ c.check_sheet-checked.ensures c.in-Ok.is in
    let p : Placed c.bytes.result c.in-Ok.said.head c.args.engine (length c.args.sheet.now) =
    placed c.in_ok-size.size _ _ v (sym c.cause_at-cause.ensures ∙ c.if-cause-ne-PENDING.false) c.bytes.ensures in
    omega (arith, p.inside)

pub bounds-sheet-at-2 : goal.bounds-sheet-at-2
bounds-sheet-at-2 c =
    let v = valid _ _ c.check_sheet-checked.ensures c.in-Ok.is in
    let p : Placed c.bytes.result c.in-Ok.said.head c.args.engine (length c.args.sheet.now) =
    placed c.in_ok-size.size _ _ v (sym c.cause_at-cause.ensures ∙ c.if-cause-ne-PENDING.false) c.bytes.ensures in
    rw length-set (omega (arith, p.inside))

pub returns : goal.returns
returns c =
    let v = valid _ _ c.check_sheet-checked.ensures c.in-Ok.is in
    let k = enter-known _ c.args.sheet.now c.args.engine c.args.finding c.try_from.ensures c.in_ok-size.was
    (rw (c.bytes.ensures, c.to_le_bytes.ensures) (wrote c.in_ok-size.size _ _ _ v c.cause_at-cause.ensures c.if-cause-ne-PENDING.false c.if-finding.false)) in
    record { result_value = k.0; sheet_after = k.1 }
