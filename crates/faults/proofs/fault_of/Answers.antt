-- The fault of an engine, and of run-in values, for which 12 stands in place of 9.
use Rattle.arithmetic.proofs.Basics.{arith}
use Rattle.std.proofs.lemmas.Grind.{common_steps}
use Rattle.faults.specs.Faults.{run_in_fault, fault_by}
use Rattle.faults.proofs.InPlaceOfNine.{by-nine, by-twelve}
use Rattle.faults.proofs.fault_of.Goals as goal

pub returns : goal.returns
unfolding fault_by run_in_fault
returns c =
    let s = c.args.s in
    grind (arith, common_steps, by-nine c.args.size s c.args.r.now, by-twelve c.args.size s c.args.r.now)
