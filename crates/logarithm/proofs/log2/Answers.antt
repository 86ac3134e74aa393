-- Each turn of the loop is a squaring.
use Rattle.arithmetic.proofs.Basics.{arith, rules}
use Rattle.logarithm.specs.Four.{Measured}
use Rattle.logarithm.proofs.Bounds.{at-start, at_next, at-fits, at-end}
use Rattle.logarithm.proofs.log2.Goals as goal

pub loop-init : goal.loop-init
loop-init c = at-start (search rules) c.start-x.ensures

pub squared-x-requires : goal.squared-x-requires
squared-x-requires c = at-fits c.loop.invariant (omega arith)

pub loop-preserved : goal.loop-preserved
loop-preserved c = at_next c.loop.invariant (omega arith) c.squared-x.ensures

pub returns : goal.returns
returns c =
    let measured : Measured c.args.m = search rules in
    at-end c.loop.invariant (omega arith) measured c.start-x.ensures
