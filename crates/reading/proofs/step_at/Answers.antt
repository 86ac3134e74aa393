-- Of a size that there is not there is no record, and before the end the record is the sheet's record of that number.
use Rattle.arithmetic.proofs.Basics.{arith}
use Rattle.std.proofs.lemmas.Bool.Decides.{nat_tests}
use Rattle.rules.specs.Sizes.{records_sized}
use Rattle.accepted.proofs.Records.{length-records, record-at}
use Rattle.reading.specs.Steps.{step_at_lem}
use Rattle.reading.proofs.step_at.Goals as goal

pub returns-in_default : goal.returns-in_default
unfolding step_at_lem records_sized
returns-in_default c = grind (arith, nat_tests)

pub returns-then-records_in-at : goal.returns-then-records_in-at
unfolding step_at_lem records_sized
returns-then-records_in-at c = grind (arith, nat_tests, length-records)

pub returns : goal.returns
unfolding step_at_lem records_sized
returns c = grind (arith, nat_tests, length-records, record-at)
