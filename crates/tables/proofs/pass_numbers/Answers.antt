-- The column is checked as a whole, by computing it.
use Rattle.arithmetic.proofs.Basics.{refl}
use Rattle.rules.specs.Plans.{attributes_passes}
use Rattle.tables.proofs.TableRows.{passes-are}
use Rattle.tables.proofs.pass_numbers.Goals as goal

pub returns : goal.returns
unfolding attributes_passes
returns c = passes-are _ refl
