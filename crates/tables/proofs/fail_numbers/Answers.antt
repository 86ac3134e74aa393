-- The column is checked as a whole, by computing it.
use Rattle.arithmetic.proofs.Basics.{refl}
use Rattle.rules.specs.Plans.{attributes_fails}
use Rattle.tables.proofs.TableRows.{fails-are}
use Rattle.tables.proofs.fail_numbers.Goals as goal

pub returns : goal.returns
unfolding attributes_fails
returns c = fails-are _ refl
