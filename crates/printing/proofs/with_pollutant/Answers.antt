-- No line where the pollutant is undeclared.
use Rattle.lines.proofs.Written.{add_none}
use Rattle.printing.proofs.with_pollutant.Goals as goal

pub returns-in-Undeclared : goal.returns-in-Undeclared
returns-in-Undeclared c = rw c.in-Undeclared.is (add_none _ _)
