-- A size that there is not, or the check by the size.
use Rattle.std.proofs.lemmas.Result.{err_from_is_err_and}
use Rattle.arithmetic.proofs.Basics.{ap, ◌∙◌}
use Rattle.std.specs.Prelude.{Err}
use Rattle.checking.proofs.Laws.{size-known, size-unknown}
use Rattle.checking.proofs.check.Goals as goal

pub returns-in_err-size : goal.returns-in_err-size
returns-in_err-size c =
    let p = err_from_is_err_and c.from_residual.result c.from_residual.ensures.1 in
    p.1 ∙ ap Err p.2 ∙ size-unknown _ _ c.try_from.ensures c.in_err-size.was

pub returns : goal.returns
returns c = size-known _ _ c.try_from.ensures c.in_ok-size.was c.check_sheet.ensures
