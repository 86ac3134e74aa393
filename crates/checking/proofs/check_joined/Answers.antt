-- The sheet's own refusal, that of the length of both, or the answer for the records after what the sheet says.
use Rattle.std.proofs.lemmas.Result.{err_from_is_err_and}
use Rattle.std.specs.Prelude.{Err}
use Rattle.arithmetic.proofs.Basics.{ap, ◌∙◌}
use Rattle.checking.specs.Check.{refusal_of}
use Rattle.checking.proofs.Laws.{length-bad, length-good, joined-refused, joined-bad, joined-ranges, joined-after}
use Rattle.checking.proofs.check_joined.Goals as goal

pub returns-in_default : goal.returns-in_default
returns-in_default c = joined-refused _ _ _ c.so_far-checked.ensures c.in_default.is

pub returns-in_err-check_length : goal.returns-in_err-check_length
returns-in_err-check_length c =
    let p = err_from_is_err_and c.from_residual.result c.from_residual.ensures.1 in
    let b = length-bad _ _ c.check_length.ensures c.in_err-check_length.was in
    joined-bad _ _ _ c.so_far-checked.ensures c.in-Ok.is b.0 (p.1 ∙ ap Err (p.2 ∙ ap refusal_of b.1))

pub check_after-requires : goal.check_after-requires
check_after-requires c =
    rw c.records_in.ensures
    (joined-ranges c.args.size c.args.sheet.now c.args.more.now c.so_far-checked.ensures c.in-Ok.is
    (length-good _ _ c.check_length.ensures c.in_ok-check_length.was))

pub returns : goal.returns
returns c =
    joined-after _ _ _ c.so_far-checked.ensures c.in-Ok.is (length-good _ _ c.check_length.ensures c.in_ok-check_length.was)
    (rw c.records_in.ensures at c.check_after.ensures)
