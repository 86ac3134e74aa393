-- A buffer that is full holds the beginning of an input that is longer than any sheet.
use Rattle.std.proofs.Common.{◌<◌, length, take, length-take, arith}
use Rattle.rules.specs.Sheet.{longest}
use Rattle.verdict.proofs.TooLong.{beginning-answers}
use Rattle.verdict.proofs.judge.Goals as goal

pub returns-in-Full : goal.returns-in-Full
returns-in-Full g c =
    let full = rw c.in-Full.is at c.in-Ok.ensures.over in
    let has_read = rw c.in-Full.is at c.in-Ok.ensures.read in
    let long : longest < length (take c.in-Full.moved c.read_full.new.buffer) = simp length-take (omega (arith, full)) in
    beginning-answers _ _ _ _ _ _ has_read long c.answer-in-Full.ensures
