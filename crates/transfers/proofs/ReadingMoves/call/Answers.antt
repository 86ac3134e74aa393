use Rattle.std.proofs.Common.{rules}
use Rattle.transfers.proofs.Bytes.{reads-on}
use Rattle.transfers.proofs.ReadingMoves.call.Goals as goal

pub returns-clause-moves : goal.returns-clause-moves
returns-clause-moves g c = λ first h. reads-on _ _ _ _ _ _ _ _ _ c.read.new.buf _ c.requires.inside (search rules) c.read.ensures.bound h c.read.ensures.bytes
