-- The number that is left to write falls to a tenth.
use Rattle.lines.proofs.Lines.+with_number.Given as goal

abbrev pub decreases-with_number : goal.decreases-with_number
decreases-with_number l = l.n
