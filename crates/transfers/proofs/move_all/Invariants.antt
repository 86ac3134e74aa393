-- The transfer keeps within its bytes, has moved what it says, and each call brings it nearer to its end.
use Rattle.std.proofs.Common.{◌≡◌}
use Rattle.transfers.proofs.Progress.{Going, left}
use Rattle.transfers.proofs.Bytes.{Moves}
use Rattle.transfers.proofs.move_all.Given as goal

abbrev pub invariant-loop-transfer : goal.invariant-loop-transfer
invariant-loop-transfer g l =
    (l.size ≡ g.M.Moves.size l.moves) × Going l.size l.transfer × (g.M.Moves.size l.moves ≡ g.M.Moves.size l.fn.moves)
    × Moves (g.M.Moves.Moved l.fn.moves l.moves) (g.M.Moves.AtEnd l.moves) l.transfer

abbrev pub decreases-loop-transfer : goal.decreases-loop-transfer
decreases-loop-transfer g l = left l.size l.transfer
