-- A word for each kind, and behind it a number of at most ten digits.
use Rattle.arithmetic.proofs.Basics.{arith}
use Rattle.lines.proofs.Written.{add-word, add-then, at_most}
use Rattle.explaining.proofs.with_name.Goals as goal

pub returns-in-Pollutant : goal.returns-in-Pollutant
returns-in-Pollutant c = rw c.in-Pollutant.is (at_most 20 (add-then (add-word c.with_word.ensures) c.with_number.ensures) (omega arith))

pub returns-in-Engine : goal.returns-in-Engine
returns-in-Engine c = rw c.in-Engine.is (at_most 20 (add-then (add-word c.with_word-in-Engine.ensures) c.with_number-in-Engine.ensures) (omega arith))

pub returns-in-Other : goal.returns-in-Other
returns-in-Other c = rw c.in-Other.is (at_most 20 (add-then (add-word c.with_word-in-Other.ensures) c.with_number-in-Other.ensures) (omega arith))
