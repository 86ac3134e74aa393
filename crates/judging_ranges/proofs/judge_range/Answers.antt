-- A size that there is not, the low sheet's own refusal, the high sheet's, or the answer for two that the check accepts.
use Rattle.std.proofs.lemmas.Result.{err_from_is_err_and}
use Rattle.std.specs.Prelude.{Err}
use Rattle.arithmetic.proofs.Basics.{ap, ◌∙◌}
use Rattle.checking.proofs.Laws.{valid, refused-so}
use Rattle.judging_ranges.specs.Ranges.{range_is}
use Rattle.judging_ranges.proofs.Judging.{low-refused, high-refused, range-unknown, range-known}
use Rattle.judging_ranges.proofs.judge_range.Goals as goal

pub returns-in_err-size : goal.returns-in_err-size
returns-in_err-size c =
    let p = err_from_is_err_and c.from_residual.result c.from_residual.ensures.1 in
    ap range_is (p.1 ∙ ap Err p.2) ∙ range-unknown _ _ _ c.try_from.ensures c.in_err-size.was

pub returns-in_default : goal.returns-in_default
returns-in_default c =
    range-known _ _ _ c.try_from.ensures c.in_ok-size.was
    (low-refused _ _ _ (refused-so _ _ c.check_sheet-checked_low.ensures c.in_default.is c.why_refused.ensures))

pub returns-in_default-checked_high : goal.returns-in_default-checked_high
returns-in_default-checked_high c =
    range-known _ _ _ c.try_from.ensures c.in_ok-size.was
    (high-refused _ _ _ (valid _ _ c.check_sheet-checked_low.ensures c.in-Ok.is).accepts
    (refused-so _ _ c.check_sheet-checked_high.ensures c.in_default-checked_high.is c.why_refused-in_default-checked_high.ensures))

pub invariant_of-judge_accepted : goal.invariant_of-judge_accepted
invariant_of-judge_accepted c = record { valid = valid _ _ c.check_sheet-checked_low.ensures c.in-Ok.is }

pub invariant_of-judge_accepted-2 : goal.invariant_of-judge_accepted-2
invariant_of-judge_accepted-2 c = record { valid = valid _ _ c.check_sheet-checked_high.ensures c.in-Ok-checked_high.is }

pub returns : goal.returns
returns c = range-known _ _ _ c.try_from.ensures c.in_ok-size.was c.judge_accepted.ensures
