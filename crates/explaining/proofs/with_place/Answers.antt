-- The record's number, and its name by what stands there.
use Rattle.arithmetic.proofs.Basics.{eq-eqb, ne_eqb}
use Rattle.lines.proofs.Written.{add_none, add-word, add-then}
use Rattle.explaining.specs.Explanation.{place}
use Rattle.explaining.proofs.with_place.Goals as goal

pub returns-then-refusal-number : goal.returns-then-refusal-number
unfolding place
returns-then-refusal-number c = rw (eq-eqb _ 1 (rw c.number.ensures at c.if-refusal-number.true)) (add_none _ 42)

pub returns : goal.returns
unfolding place
returns c =
    let named = rw (c.engines_through-engine.ensures, c.step_at-step.ensures) at c.with_name.ensures in
    rw (ne_eqb _ 1 (rw c.number.ensures at c.if-refusal-number.false))
    (add-then (add-word c.with_word.ensures)
    (add-then c.with_number.ensures (add-then (add-word c.with_word-lines.ensures) (add-then named (add-word c.with_word-2.ensures)))))
