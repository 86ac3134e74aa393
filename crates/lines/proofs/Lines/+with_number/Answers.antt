-- `with_number` meets its contract: the digits of a tenth of the number, which is less, and then the last.
use Rattle.arithmetic.proofs.Basics.{◌∙◌, arith}
use Rattle.lines.specs.Writing.{with_bytes}
use Rattle.lines.proofs.Numbers.{one-digit, more-digits, decimal-length}
use Rattle.lines.proofs.Written.{with_append}
use Rattle.lines.proofs.Lines.+with_number.Goals as goal

pub returns-then-n-lt10 : goal.returns-then-n-lt10
unfolding with_bytes
returns-then-n-lt10 t c =
    let fits = c.ranges.n.fits in
    record { adds = c.with_byte.ensures ∙ rw (one-digit c.args.n c.if-n-lt10.true); few = decimal-length 9 c.args.n (omega (arith, fits)) }

pub returns-else-n-lt10 : goal.returns-else-n-lt10
unfolding with_bytes
returns-else-n-lt10 t c =
    let digits = more-digits c.args.n (omega (arith, c.if-n-lt10.false)) in
    let fits = c.ranges.n.fits in
    record {
      adds = c.with_byte-else-n-lt10.ensures ∙ rw (c.with_number.ensures.adds, digits, with_append);
      few = decimal-length 9 c.args.n (omega (arith, fits));
    }
