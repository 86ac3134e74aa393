-- The numbers are in range, behind the rows too.
use Rattle.arithmetic.proofs.Basics.{ℕ}
use Rattle.logarithm.specs.Four.{Measured}
use Rattle.fours.specs.Columns.{measured_in}
use Rattle.fours.proofs.Places.{or-ranges}
use Rattle.fours.proofs.put_four.Goals as goal

pub log2_four-requires : goal.log2_four-requires
log2_four-requires c =
    let in_range : (i : ℕ) → Measured (measured_in c.args.column i) = or-ranges _ _ _ _ _ c.args.column.in_range in
    record {
      a = c.requires.number;
      b = rw c.measured_or_one.ensures (in_range _);
      c = rw c.measured_or_one-2.ensures (in_range _);
      d = rw c.measured_or_one-3.ensures (in_range _);
    }
