-- g of 1 is 0.
use Rattle.arithmetic.proofs.Basics.{refl}
use Rattle.rules.specs.Logarithm.{g, logarithm, bits, binary_digits}
use Rattle.corrections.proofs.log2_of.Goals as goal

pub returns-then-m-eq1 : goal.returns-then-m-eq1
unfolding g logarithm bits binary_digits
returns-then-m-eq1 c = rw c.if-m-eq1.true refl
