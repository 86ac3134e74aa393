-- The program's row as document 01's.
use Rattle.rules.specs.Plans as rules
use Rattle.rows.specs.declared.Row.{Row}
use Rattle.rows.specs.declared.Row.TheVariants.{Open, Pass, Fail}

abbrev pub row_is : Row → rules.Row
row_is Open = rules.undecided
row_is Pass = rules.pass
row_is Fail = rules.fail
