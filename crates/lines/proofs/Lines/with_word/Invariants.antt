-- What is left of the word, behind what is written, makes the whole.
use Rattle.std.proofs.Common.{◌≡◌, drop}
use Rattle.lines.specs.Writing.{with_bytes}
use Rattle.lines.proofs.Lines.with_word.Given as goal

abbrev pub invariant-loop-b : goal.invariant-loop-b
invariant-loop-b l = with_bytes l.self (drop l.b-index l.word) ≡ with_bytes l.fn.self l.word
