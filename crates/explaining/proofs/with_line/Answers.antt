-- In the loop a byte is left, of the line that is written or of a line before it.
use Rattle.arithmetic.proofs.Basics.{ℕ, zero, suc, ◌+◌, ◌-◌, ◌<◌, add-one, sub-one, arith, ◌≡◌, refl, cond, List, ◌∷◌, eqb, length, get_or, drop}
use Rattle.arithmetic.proofs.Basics.{drop_of_length-le, drop-cons, ne_eqb}
use Rattle.lines.specs.declared.Lines.{Lines}
use Rattle.lines.specs.Writing.{with_bytes}
use Rattle.explaining.specs.Sentences.{line_of}
use Rattle.explaining.proofs.with_line.Goals as goal
use Rattle.explaining.proofs.with_line.Goals.{then-before-eq0+else-byte-eq10, else-before-eq0+then-byte-eq10-2, else-before-eq0+else-byte-eq10-2}

left : (lines : Lines) (whole : Lines) (text : List ℕ) (i k : ℕ) → i < length text → with_bytes lines (line_of (drop i text) k) ≡ whole
    → with_bytes lines (line_of (get_or text i 0 ∷ drop (i + 1) text) k) ≡ whole
left lines whole text i k h e =
    let d = drop-cons text i 0 h in
    rw (add-one i) (rw d at e)

-- a byte of a line before
passed : (b k : ℕ) (bs : List ℕ) → (k ≡ 0 → ⊥) → line_of (b ∷ bs) k ≡ line_of bs (cond (eqb b 10) (k - 1) k)
unfolding line_of
passed b zero bs h = absurd (h refl)
passed b (suc k) bs h = rw (sub-one (suc k)) refl

pub returns-then-byte-eq10 : goal.returns-then-byte-eq10
unfolding with_bytes line_of
returns-then-byte-eq10 c =
    let l = c.loop-byte in
    rw (c.if-before-eq0.true, c.if-byte-eq10.true) at (left l.lines _ c.args.text.now l.byte-index l.before c.loop-byte-test.true l.invariant)

pub loop-byte-preserved : goal.loop-byte-preserved
unfolding with_bytes line_of
loop-byte-preserved c =
    let l = c.loop-byte in
    let e = left l.lines _ c.args.text.now l.byte-index l.before c.loop-byte-test.true l.invariant in
    elim c.if-before-eq0.branch [
      | then-before-eq0+else-byte-eq10 w ↦
          let z = w.if-before-eq0.true in
          rw (w.lines-is, w.before-is, w.with_byte-lines.ensures, z) (rw (z, ne_eqb _ 10 w.if-byte-eq10.false) at e)
      | else-before-eq0+then-byte-eq10-2 w ↦ rw (w.lines-is, w.before-is) (rw (w.if-byte-eq10-2.true, passed 10 _ _ w.if-before-eq0.false) at e)
      | else-before-eq0+else-byte-eq10-2 w ↦ rw (w.lines-is, w.before-is) (rw (passed _ _ _ w.if-before-eq0.false, ne_eqb _ 10 w.if-byte-eq10-2.false) at e)
    ]

pub returns : goal.returns
unfolding with_bytes line_of
returns c = rw (drop_of_length-le c.args.text.now c.loop-byte-test.false) at c.loop-byte.invariant
