-- Through the deciding engine's record, which lies in the sheet, or the whole sheet.
use Rattle.arithmetic.proofs.Basics.{◌∙◌, sym, take-length}
use Rattle.series.proofs.Judging.{evidence-fits, evidence-part, evidence-whole}
use Rattle.series.proofs.evidence_end.Goals as goal

pub returns-in-Some-clause-part : goal.returns-in-Some-clause-part
returns-in-Some-clause-part c =
    rw c.bytes.ensures (evidence-part c.args.sheet.valid c.judgement_of-judgement.ensures (sym c.deciding.ensures ∙ c.in-Some.is))

pub returns-in-Some-clause-inside : goal.returns-in-Some-clause-inside
returns-in-Some-clause-inside c =
    rw c.bytes.ensures (evidence-fits c.args.sheet.valid c.judgement_of-judgement.ensures (sym c.deciding.ensures ∙ c.in-Some.is))

pub returns-in-None-clause-part : goal.returns-in-None-clause-part
returns-in-None-clause-part c =
    rw take-length (evidence-whole c.args.sheet.valid c.judgement_of-judgement.ensures (sym c.deciding.ensures ∙ c.in-None.is))
