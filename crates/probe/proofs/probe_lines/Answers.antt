-- The lines' bytes at the start of the output where they fit, and how many they are.
use Rattle.arithmetic.proofs.Basics.{ℕ, ◌≡◌, ◌≤◌, ◌<◌, refl, ap, ◌∙◌, List, ◌++◌, length, drop, le-leb, lt-leb}
use Rattle.lines.specs.declared.Lines.{Lines}
use Rattle.lines.specs.Writing.{held, Written}
use Rattle.lines.proofs.Written.{part_length}
use Rattle.probe.specs.Entries.{placed}
use Rattle.probe.proofs.probe_lines.Goals as goal

module _ {l : Lines} {bs : List ℕ} (w : Written l bs) where
  how-many : l.length ≡ length bs
  how-many = part_length w.kept ∙ ap length w.holds

  copied : (o : List ℕ) {y : List ℕ} → y ≡ held l → l.length ≤ length o → y ++ drop l.length o ≡ placed bs o
  unfolding placed
  copied o {y} q f = let e : y ≡ bs = q ∙ w.holds in rw (e, how-many, le-leb (length bs) (length o) (rw how-many at f)) refl

  unchanged : (o : List ℕ) → length o < l.length → o ≡ placed bs o
  unfolding placed
  unchanged o f = rw (lt-leb (length bs) (length o) (rw how-many at f)) refl

pub returns-then-n-output-clause-output_after : goal.returns-then-n-output-clause-output_after
returns-then-n-output-clause-output_after c = copied c.print-lines.ensures _ c.copy_from_slice.ensures.after c.if-n-output.true

pub returns-else-n-output-clause-output_after : goal.returns-else-n-output-clause-output_after
returns-else-n-output-clause-output_after c = unchanged c.print-lines.ensures _ c.if-n-output.false
