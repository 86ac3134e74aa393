use Rattle.transfers.proofs.Bytes.{writes-on}
use Rattle.transfers.proofs.WritingMoves.call.Goals as goal

pub returns-clause-moves : goal.returns-clause-moves
returns-clause-moves g c = λ first h. writes-on _ _ _ _ _ _ _ _ _ h c.write.ensures.bytes
