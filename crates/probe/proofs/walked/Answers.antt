-- The reader stands at record k, or at the end.
use Rattle.arithmetic.proofs.Basics.{ℕ, ◌+◌, ◌<◌, arith, ◌≡◌, ap, ◌∙◌, List, length, lt-ltb}
use Rattle.rules.specs.Sizes.{records_sized}
use Rattle.reading.specs.declared.Turn.{Turn}
use Rattle.reading.specs.Steps.{left_at_lem, next_at, turn_at_lem}
use Rattle.probe.specs.Entries.{reached}
use Rattle.probe.proofs.walked.Goals as goal

-- where records are left, the next number is one more
moved_on : (s : ℕ) (b : List ℕ) (at : ℕ) {t : Turn} → t ≡ turn_at_lem s b at → (t.left ≡ 0 → ⊥) → (t.next ≡ at + 1) × (at < length (records_sized s b))
unfolding left_at_lem next_at
moved_on s b at e h =
    let more : at < length (records_sized s b) = omega (arith, ap (λ (x : Turn). x.left) e) in
    (ap (λ (x : Turn). x.next) e ∙ (rw (lt-ltb at (length (records_sized s b)) more)), more)

pub loop-at-init : goal.loop-at-init
loop-at-init c = (omega arith, omega arith)

pub returns-then-turn-eq0 : goal.returns-then-turn-eq0
unfolding reached left_at_lem
returns-then-turn-eq0 c = omega (arith, c.loop-at.invariant, ap (λ (x : Turn). x.left) c.turn_at-turn.ensures)

pub loop-at-preserved : goal.loop-at-preserved
loop-at-preserved c = let m = moved_on _ _ _ c.turn_at-turn.ensures c.if-turn-eq0.false in (omega (arith, c.loop-at.invariant, m), omega (arith, m))

pub loop-at-smaller : goal.loop-at-smaller
loop-at-smaller c = omega (arith, c.loop-at-test.true, moved_on _ _ _ c.turn_at-turn.ensures c.if-turn-eq0.false)

pub returns : goal.returns
unfolding reached
returns c = omega (arith, c.loop-at.invariant, c.loop-at-test.false)
