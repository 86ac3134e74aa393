-- The line of the check's refusal, and none for an accepted sheet. There is room for all of it.
use Rattle.arithmetic.proofs.Basics.{sym, ◌∙◌, arith}
use Rattle.layout.specs.declared.Size.TheVariants.{Twenty}
use Rattle.checking.specs.Check.{checked_of, checked_sized}
use Rattle.checking.proofs.Laws.{accepted-sheet, refused-sheet}
use Rattle.lines.specs.Writing.{room, nothing}
use Rattle.lines.proofs.Written.{add_none, add-word, add-byte, add-then, at_most, written}
use Rattle.explaining.specs.Explanation.{explained}
use Rattle.explaining.proofs.explain.Goals as goal

pub returns-in_default : goal.returns-in_default
unfolding explained checked_of checked_sized
returns-in_default c =
    let e = accepted-sheet Twenty _ (sym c.check.ensures ∙ c.in_default.is) in
    rw (c.nothing.ensures, e.0) (written (add_none nothing room))

pub returns : goal.returns
unfolding explained checked_of checked_sized
returns c =
    let e = refused-sheet Twenty _ (sym c.check.ensures ∙ c.in-Err.is) in
    let start = rw c.nothing-2.ensures at c.with_word-lines.ensures in
    let a = add-then (add-word start) (add-then c.with_place-lines.ensures (add-then c.with_sentence.ensures (add-byte c.with_byte.ensures))) in
    rw e (written (at_most room a (omega (arith, a.few))))
