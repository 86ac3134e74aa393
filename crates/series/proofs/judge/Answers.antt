-- A size that there is not, or the judgement by the size.
use Rattle.std.proofs.lemmas.Result.{err_from_is_err_and}
use Rattle.std.specs.Prelude.{Err}
use Rattle.arithmetic.proofs.Basics.{ap, ◌∙◌}
use Rattle.series.specs.Answers.{judged_is}
use Rattle.series.proofs.Judging.{judge-unknown, judge-known}
use Rattle.series.proofs.judge.Goals as goal

pub returns-in_err-size-clause-result_value : goal.returns-in_err-size-clause-result_value
returns-in_err-size-clause-result_value c =
    let p = err_from_is_err_and c.from_residual.result c.from_residual.ensures.1 in
    ap judged_is (p.1 ∙ ap Err p.2) ∙ judge-unknown _ _ c.try_from.ensures c.in_err-size.was

pub returns-clause-result_value : goal.returns-clause-result_value
returns-clause-result_value c = judge-known _ _ c.try_from.ensures c.in_ok-size.was c.judge_sheet.ensures.result_value
