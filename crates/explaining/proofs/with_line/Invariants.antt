-- What is left of the line, behind what is written, makes the whole.
use Rattle.std.proofs.Common.{◌≡◌, drop}
use Rattle.lines.specs.Writing.{with_bytes}
use Rattle.explaining.specs.Sentences.{line_of}
use Rattle.explaining.proofs.with_line.Given as goal

abbrev pub invariant-loop-byte : goal.invariant-loop-byte
invariant-loop-byte l = with_bytes l.lines (line_of (drop l.byte-index l.text) l.before) ≡ with_bytes l.fn.lines (line_of l.text l.fn.number)
