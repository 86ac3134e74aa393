-- A word, two numbers, spaces between and a newline.
use Rattle.arithmetic.proofs.Basics.{arith}
use Rattle.lines.proofs.Numbers.{decimal-length}
use Rattle.lines.proofs.Written.{add-line}
use Rattle.printing.proofs.line_of.Goals as goal

pub returns : goal.returns
returns c =
    let word = rw c.nothing.ensures at c.with_word.ensures in
    let few-a = decimal-length 2 c.args.a (omega (arith, c.ranges.a.fits)) in
    let few-b = decimal-length 2 c.args.b (omega (arith, c.ranges.b.fits)) in
    add-line _ _ _ word c.with_byte.ensures c.with_number.ensures.adds c.with_byte-2.ensures
    c.with_number-2.ensures.adds c.with_byte-3.ensures (omega (arith, few-a, few-b))
