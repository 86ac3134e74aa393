-- The check's refusal, or the judgement of an accepted sheet.
use Rattle.checking.proofs.Laws.{valid, refused-so}
use Rattle.series.proofs.Judging.{judge-refused, judge-accepted}
use Rattle.series.proofs.judge_sheet.Goals as goal

pub returns-in_default-clause-result_value : goal.returns-in_default-clause-result_value
returns-in_default-clause-result_value c =
    judge-refused _ _ (refused-so _ _ c.check_sheet-checked.ensures c.in_default.is c.why_refused.ensures)

pub invariant_of-judgement_of : goal.invariant_of-judgement_of
invariant_of-judgement_of c = record { valid = valid _ _ c.check_sheet-checked.ensures c.in-Ok.is }

pub returns-clause-result_value : goal.returns-clause-result_value
returns-clause-result_value c = judge-accepted (valid _ _ c.check_sheet-checked.ensures c.in-Ok.is) c.judgement_of.ensures
