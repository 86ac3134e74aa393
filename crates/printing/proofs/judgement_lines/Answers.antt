-- Line 1 and a line for each of the four.
use Rattle.arithmetic.proofs.Basics.{arith}
use Rattle.lines.specs.Writing.{room}
use Rattle.lines.proofs.Written.{add_none, add-then}
use Rattle.printing.specs.Judgements.{judgement_lines_lem}
use Rattle.printing.proofs.Printing.{within}
use Rattle.printing.proofs.judgement_lines.Goals as goal

pub returns : goal.returns
unfolding judgement_lines_lem
returns c =
    let nox = add-then c.with_pollutant-lines-3.ensures (add-then c.with_pollutant.ensures (add_none _ 0)) in
    within room (add-then c.first_line-lines.ensures (add-then c.with_pollutant-lines.ensures (add-then c.with_pollutant-lines-2.ensures nox))) (omega arith)
