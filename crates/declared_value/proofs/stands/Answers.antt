-- The two comparisons are the definition's.
use Rattle.declared_value.proofs.Standing.{stands-is}
use Rattle.declared_value.proofs.stands.Goals as goal

pub returns : goal.returns
returns c = rw (c.from-value.ensures, c.from-first.ensures, c.from.ensures, c.test_at.ensures, c.test_at-2.ensures) (stands-is c.args.declared c.args.k c.args.tests.now)
