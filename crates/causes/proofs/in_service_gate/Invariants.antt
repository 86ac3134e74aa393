-- While the loop goes on, all rows so far may be looked at.
use Rattle.layout.specs.Sizes.{width_is}
use Rattle.causes.proofs.Gating.{Gated}
use Rattle.causes.proofs.in_service_gate.Given as goal

abbrev pub invariant-loop-n : goal.invariant-loop-n
invariant-loop-n l = Gated (width_is l.sheet.size) l.sheet.bytes.now l.engines l.n l.repeated l.pending
