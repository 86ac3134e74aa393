-- A number, a word and a number, spaces between and a newline.
use Rattle.arithmetic.proofs.Basics.{arith}
use Rattle.lines.proofs.Numbers.{decimal-length}
use Rattle.lines.proofs.Written.{add-line}
use Rattle.printing.proofs.with_decision.Goals as goal

pub returns : goal.returns
returns c =
    let few-p = decimal-length 2 c.args.p (omega (arith, c.ranges.p.fits)) in
    let few = decimal-length 2 c.args.engine (omega (arith, c.ranges.engine.fits)) in
    add-line _ _ _ c.with_number.ensures.adds c.with_byte.ensures c.with_word.ensures c.with_byte-2.ensures
    c.with_number-2.ensures.adds c.with_byte-3.ensures (omega (arith, few-p, few))
