-- The code's leading zeros place the top bit as the definition's digits do.
use Rattle.arithmetic.proofs.Basics.{◌-◌, ◌*◌, ◌^◌, ◌<◌, ◌≡◌, mod-eq_of_lt, arith}
use Rattle.rules.specs.Logarithm.{exponent}
use Rattle.logarithm.proofs.Laws.{placed}
use Rattle.logarithm.proofs.start.Goals as goal

pub returns : goal.returns
returns c =
    let m = c.args.m in
    let p = placed m (omega arith) (omega arith) in
    let few : 31 - (31 - exponent m) ≡ exponent m = omega arith in
    let fits : m * 2 ^ (31 - exponent m) < 2 ^ 64 = omega arith in
    rw (c.from.ensures, p.zeros, few, mod-eq_of_lt fits)
