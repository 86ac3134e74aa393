-- A size that there is not, the check's refusal, or the part of an accepted sheet to its end.
use Rattle.std.proofs.lemmas.Result.{err_from_is_err_and}
use Rattle.arithmetic.proofs.Basics.{sym, ◌∙◌}
use Rattle.checking.proofs.Laws.{valid, refused-so}
use Rattle.series.proofs.Judging.{evidence-refused, evidence-unknown, evidence-known, check-unknown, check-known}
use Rattle.series.proofs.evidence.Goals as goal

pub returns-in_err-size-clause-part : goal.returns-in_err-size-clause-part
returns-in_err-size-clause-part c =
    let p = err_from_is_err_and c.from_residual.result c.from_residual.ensures.1 in
    rw p.1 (evidence-unknown _ _ c.try_from.ensures c.in_err-size.was)

pub returns-in_err-size-clause-answer : goal.returns-in_err-size-clause-answer
returns-in_err-size-clause-answer c =
    let p = err_from_is_err_and c.from_residual.result c.from_residual.ensures.1 in
    rw (p.1, p.2) (check-unknown _ _ c.try_from.ensures c.in_err-size.was)

pub returns-in_default-clause-part : goal.returns-in_default-clause-part
returns-in_default-clause-part c =
    evidence-refused _ _ (refused-so _ _ c.check_sheet-checked.ensures c.in_default.is c.why_refused.ensures)
    ∙ evidence-known _ _ c.try_from.ensures c.in_ok-size.was

pub returns-in_default-clause-answer : goal.returns-in_default-clause-answer
returns-in_default-clause-answer c =
    sym (refused-so _ _ c.check_sheet-checked.ensures c.in_default.is c.why_refused.ensures)
    ∙ check-known _ _ c.try_from.ensures c.in_ok-size.was

pub invariant_of-evidence_end : goal.invariant_of-evidence_end
invariant_of-evidence_end c = record { valid = valid _ _ c.check_sheet-checked.ensures c.in-Ok.is }

pub returns-clause-part : goal.returns-clause-part
returns-clause-part c = c.evidence_end-end.ensures.part ∙ evidence-known _ _ c.try_from.ensures c.in_ok-size.was

pub returns-clause-answer : goal.returns-clause-answer
returns-clause-answer c =
    sym (valid _ _ c.check_sheet-checked.ensures c.in-Ok.is).accepts ∙ check-known _ _ c.try_from.ensures c.in_ok-size.was
