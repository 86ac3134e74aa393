use Rattle.std.proofs.Common.{arith, refl}
use Rattle.transfers.specs.Transfers.{Room}
use Rattle.transfers.proofs.Progress.{start-going, step-going}
use Rattle.transfers.proofs.Bytes.{start-moves, step-moves, failed-moves}
use Rattle.transfers.proofs.move_all.Goals as goal

pub loop-transfer-init : goal.loop-transfer-init
loop-transfer-init g c =
    let moves = c.args.moves.now in
    let start = start-moves (g.M.Moves.Moved moves moves) (g.M.Moves.AtEnd moves) c.size-size.result (g.met.M.Moves.none_moved moves) in
    (c.size-size.ensures, rw c.further-transfer.ensures (start-going c.size-size.result), refl, rw c.further-transfer.ensures start)

pub loop-transfer-preserved : goal.loop-transfer-preserved
loop-transfer-preserved g c =
    let l = c.loop-transfer.invariant in
    let call = c.call-call in
    let so_far = c.in-Continue.so_far in
    let going = rw c.in-Continue.is at l.1 in
    let fits : Room (g.M.Moves.size c.loop-transfer.moves) so_far.moved call.result = record { room = omega (arith, call.ensures.room.room) } in
    let on = call.ensures.moves c.args.moves.now (rw c.in-Continue.is at l.3) in
    let moves = step-moves (g.M.Moves.Moved c.args.moves.now call.new.self) (g.M.Moves.AtEnd call.new.self) _ _ so_far _ l.0 c.after.ensures (omega arith) on in (
      omega arith,
      step-going c.in_ok-transfer.was c.after.ensures c.in-Continue.is l.0 fits l.1,
      omega arith,
      rw c.in_ok-transfer.was at moves,
    )

pub returns-in_err-transfer : goal.returns-in_err-transfer
returns-in_err-transfer g c =
    let l = c.loop-transfer.invariant in
    let call = c.call-call in
    let so_far = c.in-Continue.so_far in
    let going = rw c.in-Continue.is at l.1 in
    let on = call.ensures.moves c.args.moves.now (rw c.in-Continue.is at l.3) in
    let M = g.M.Moves.Moved c.args.moves.now call.new.self in
    let moves = step-moves M (g.M.Moves.AtEnd call.new.self) _ _ so_far _ l.0 c.after.ensures (omega arith) on in
    let failed = failed-moves M (g.M.Moves.AtEnd call.new.self) (g.M.Moves.size c.args.moves.now) _ c.from_residual.ensures.0 (rw c.in_err-transfer.was at moves) in
    record { over = failed.0; moved = failed.1 }
