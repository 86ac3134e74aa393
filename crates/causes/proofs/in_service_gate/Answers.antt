-- Each row that ends or holds the series is the gate's, and past any other all rows so far may be looked at.
use Rattle.arithmetic.proofs.Basics.{arith}
use Rattle.causes.proofs.Gating.{few-rows, emitters-are, no-emitters, gated-none, cause-gate, held-gate, referral-gate, gated-next, gated-all}
use Rattle.tested.proofs.Tested.{of-plan}
use Rattle.causes.proofs.in_service_gate.Goals as goal

pub overflow_sub-emitters : goal.overflow_sub-emitters
overflow_sub-emitters c = omega (arith, emitters-are (of-plan c.args.sheet c.requires.in_service) c.requires.all c.equal_causes.ensures)

pub overflow_cast-result : goal.overflow_cast-result
overflow_cast-result c = omega (arith, few-rows (of-plan c.args.sheet c.requires.in_service) c.requires.all)

pub returns-then-emitters-eq0 : goal.returns-then-emitters-eq0
returns-then-emitters-eq0 c =
    no-emitters (of-plan c.args.sheet c.requires.in_service) c.requires.all
    (omega (arith, emitters-are (of-plan c.args.sheet c.requires.in_service) c.requires.all c.equal_causes.ensures, c.if-emitters-eq0.true))

pub loop-n-init : goal.loop-n-init
loop-n-init c = gated-none (of-plan c.args.sheet c.requires.in_service) c.requires.all

pub overflow_cast-before : goal.overflow_cast-before
overflow_cast-before c = omega (arith, c.loop-n-test.true, few-rows (of-plan c.args.sheet c.requires.in_service) c.requires.all)

pub returns-then-row-repeated : goal.returns-then-row-repeated
returns-then-row-repeated c =
    cause-gate (of-plan c.args.sheet c.requires.in_service) c.requires.all
    c.loop-n.invariant c.loop-n-test.true c.cause_at-cause.ensures c.repeats-repeated.ensures c.if-row-repeated.true

pub returns-then-row-pending : goal.returns-then-row-pending
returns-then-row-pending c =
    held-gate (of-plan c.args.sheet c.requires.in_service) c.requires.all
    c.loop-n.invariant c.loop-n-test.true c.cause_at-cause.ensures c.repeats-repeated.ensures c.if-row-repeated.false c.if-row-pending.true

pub returns-then-row-emitters : goal.returns-then-row-emitters
returns-then-row-emitters c =
    referral-gate (of-plan c.args.sheet c.requires.in_service) c.requires.all
    c.loop-n.invariant c.loop-n-test.true c.cause_at-cause.ensures c.repeats-repeated.ensures c.if-row-repeated.false c.if-row-pending.false
    (omega (arith, emitters-are (of-plan c.args.sheet c.requires.in_service) c.requires.all c.equal_causes.ensures)) c.if-row-emitters.true

pub loop-n-preserved : goal.loop-n-preserved
loop-n-preserved c =
    gated-next (of-plan c.args.sheet c.requires.in_service) c.requires.all
    c.loop-n.invariant c.loop-n-test.true c.cause_at-cause.ensures c.repeats-repeated.ensures c.if-row-repeated.false c.if-row-pending.false
    (omega (arith, emitters-are (of-plan c.args.sheet c.requires.in_service) c.requires.all c.equal_causes.ensures)) c.if-row-emitters.false

pub overflow_cast-result-2 : goal.overflow_cast-result-2
overflow_cast-result-2 c = omega (arith, few-rows (of-plan c.args.sheet c.requires.in_service) c.requires.all)

pub returns : goal.returns
returns c = gated-all (of-plan c.args.sheet c.requires.in_service) c.requires.all c.loop-n.invariant c.loop-n-test.false
