-- A refused length, or the answer for the records.
use Rattle.std.proofs.lemmas.Result.{err_from_is_err_and}
use Rattle.std.specs.Prelude.{Err}
use Rattle.arithmetic.proofs.Basics.{ap, ◌∙◌}
use Rattle.rules.specs.Refusals.{check}
use Rattle.checking.specs.Check.{refusal_of, checked_of}
use Rattle.checking.proofs.Laws.{length-bad, length-good, whole-ranges, whole-checked}
use Rattle.checking.proofs.check_sheet.Goals as goal

pub returns-in_err-check_length : goal.returns-in_err-check_length
unfolding checked_of check
returns-in_err-check_length c =
    let p = err_from_is_err_and c.from_residual.result c.from_residual.ensures.1 in
    let b = length-bad _ _ c.check_length.ensures c.in_err-check_length.was in
    rw b.0 (p.1 ∙ ap Err (p.2 ∙ ap refusal_of b.1))

pub check_after-requires : goal.check_after-requires
check_after-requires c = whole-ranges _ c.nothing.ensures _ (length-good _ _ c.check_length.ensures c.in_ok-check_length.was)

pub returns : goal.returns
returns c = c.check_after.ensures ∙ whole-checked _ c.nothing.ensures _ (length-good _ _ c.check_length.ensures c.in_ok-check_length.was)
