-- The lines of the judgement, or of the refusal.
use Rattle.arithmetic.proofs.Basics.{subst, arith}
use Rattle.rules.specs.Sizes.{judge_sized}
use Rattle.lines.specs.Writing.{room, Written}
use Rattle.lines.proofs.Written.{written}
use Rattle.printing.proofs.Printing.{within, printed-refusal, printed-judgement}
use Rattle.printing.proofs.print.Goals as goal

pub returns-in-Ok : goal.returns-in-Ok
unfolding judge_sized
returns-in-Ok c =
    let t = c.in-Ok.is in
    let e = c.judge.ensures in
    subst (Written _) (printed-judgement _ _ (rw t at e.result_value) (rw t at e.declared_is)) (written c.judgement_lines.ensures)

pub returns-in-Err : goal.returns-in-Err
unfolding judge_sized
returns-in-Err c =
    let t = c.in-Err.is in
    let e = c.judge.ensures in
    subst (Written _) (printed-refusal _ _ _ (rw t at e.result_value)) (written (within room c.line_of.ensures (omega arith)))
