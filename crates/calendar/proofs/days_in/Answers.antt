-- A month of 31 days is none of the five that have fewer.
use Rattle.arithmetic.proofs.Basics.{arith}
use Rattle.calendar.proofs.Months.{long-month}
use Rattle.calendar.proofs.days_in.Goals as goal

pub returns-in-0-to-12-2 : goal.returns-in-0-to-12-2
returns-in-0-to-12-2 c = long-month _ _ (omega arith) (λ e. grind arith) (λ e. grind arith) (λ e. grind arith) (λ e. grind arith) (λ e. grind arith)
