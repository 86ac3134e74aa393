-- The judgement's verdict, whatever its pairs.
use Rattle.judging_ranges.proofs.Judging.{verdict-says}
use Rattle.judging_ranges.proofs.verdict_of.Goals as goal

pub returns : goal.returns
returns c = verdict-says c.args.sheet.valid c.judgement_of-judgement.ensures
