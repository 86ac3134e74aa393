-- Each return is one of the definition's.
use Rattle.arithmetic.proofs.Basics.{arith}
use Rattle.std.proofs.lemmas.Bool.Decides.{nat_tests}
use Rattle.rules.specs.DeclaredValue.{decided, bad_count, bad_value_lem, after_decision, approve}
use Rattle.declared_value.proofs.Standing.{sum-three}
use Rattle.declared_value.proofs.approve.Goals as goal

pub returns-then-not-contains : goal.returns-then-not-contains
unfolding approve bad_count
returns-then-not-contains c = grind (arith, nat_tests, c.contains.ensures.value)

pub returns-then-is_outside-any_outside : goal.returns-then-is_outside-any_outside
unfolding approve bad_count bad_value_lem
returns-then-is_outside-any_outside c = grind (arith, nat_tests, c.contains.ensures.value)

pub returns-then-stands : goal.returns-then-stands
unfolding approve bad_count bad_value_lem after_decision
returns-then-stands c = grind (arith, nat_tests, c.contains.ensures.value)

pub returns-then-stands-2 : goal.returns-then-stands-2
unfolding approve bad_count bad_value_lem after_decision decided
returns-then-stands-2 c = grind (arith, nat_tests, c.contains.ensures.value)

pub returns-then-count-lt-MOST_TESTS : goal.returns-then-count-lt-MOST_TESTS
unfolding approve bad_count bad_value_lem after_decision decided
returns-then-count-lt-MOST_TESTS c = grind (arith, nat_tests, c.contains.ensures.value)

pub returns : goal.returns
unfolding approve bad_count bad_value_lem after_decision decided
returns c = grind (arith, nat_tests, c.contains.ensures.value, sum-three)
