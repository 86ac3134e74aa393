-- One pass over the records, up to the first that has a fault.
use Rattle.arithmetic.proofs.Basics.{◌/◌, ◌<◌, ◌≡◌, sym, ap, ◌∙◌, length}
use Rattle.rules.specs.Sheet.{size}
use Rattle.layout.specs.Sizes.{width_is}
use Rattle.refusals.specs.Numbers.{fault_number}
use Rattle.refusals.proofs.Positive.{number-not-0}
use Rattle.checking.proofs.Progress.{begin, room, faulty, next, done}
use Rattle.checking.proofs.check_after.Goals as goal

pub loop-k-init : goal.loop-k-init
loop-k-init c = begin _ c.requires

pub returns-in-Err : goal.returns-in-Err
returns-in-Err c =
    let i : c.loop-k.k < length c.args.bytes.now / size (width_is c.args.size) = rw c.records_in-n.ensures at c.loop-k-test.true in
    let e : fault_number c.fault_of.result ≡ c.number.result = ap fault_number c.in-Err.is ∙ sym c.number.ensures in
    rw e at (faulty _ _ c.loop-k.invariant i c.record_at-r.ensures c.fault_of.ensures (λ z. number-not-0 _ (sym c.number.ensures ∙ sym e ∙ z)))

pub with-summary-requires : goal.with-summary-requires
with-summary-requires c = room _ _ c.loop-k.invariant (rw c.records_in-n.ensures at c.loop-k-test.true) c.requires

pub loop-k-preserved : goal.loop-k-preserved
loop-k-preserved c =
    next _ _ c.loop-k.invariant (rw c.records_in-n.ensures at c.loop-k-test.true) c.record_at-r.ensures c.fault_of.ensures (ap fault_number c.in_default.is)
    c.with-summary.ensures

pub returns : goal.returns
returns c = done _ _ c.loop-k.invariant (rw c.records_in-n.ensures at c.loop-k-test.false)
