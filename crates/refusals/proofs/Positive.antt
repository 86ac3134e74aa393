-- No reason has the number 0, which stands for none.
use Rattle.std.specs.Prelude.{◌≡◌}
use Rattle.arithmetic.proofs.Basics.{arith}
use Rattle.refusals.specs.declared.Reason.{Reason}
use Rattle.refusals.specs.declared.Reason.TheVariants as reason
use Rattle.refusals.specs.Numbers.{number_is}

pub number-not-0 : (r : Reason) → number_is r ≡ 0 → ⊥
number-not-0 reason.Length e = absurd (omega arith)
number-not-0 reason.Kind e = absurd (omega arith)
number-not-0 reason.Order e = absurd (omega arith)
number-not-0 reason.PollutantNumber e = absurd (omega arith)
number-not-0 reason.Plan e = absurd (omega arith)
number-not-0 reason.Limit e = absurd (omega arith)
number-not-0 reason.Deviation e = absurd (omega arith)
number-not-0 reason.Measurement e = absurd (omega arith)
number-not-0 reason.Cause e = absurd (omega arith)
number-not-0 reason.TooManyEngines e = absurd (omega arith)
number-not-0 reason.Stop e = absurd (omega arith)
number-not-0 reason.UnusedByte e = absurd (omega arith)
number-not-0 reason.NoRoom e = absurd (omega arith)
number-not-0 reason.RecordLength e = absurd (omega arith)
number-not-0 reason.OutputLength e = absurd (omega arith)
number-not-0 reason.SmallEngine e = absurd (omega arith)
number-not-0 reason.Date e = absurd (omega arith)
number-not-0 reason.ParticulateLimit e = absurd (omega arith)
number-not-0 reason.RunIn e = absurd (omega arith)
number-not-0 reason.TestCount e = absurd (omega arith)
number-not-0 reason.Value e = absurd (omega arith)
number-not-0 reason.TestAfterDecision e = absurd (omega arith)
number-not-0 reason.NotPending e = absurd (omega arith)
number-not-0 reason.Finding e = absurd (omega arith)
number-not-0 reason.SheetsDiffer e = absurd (omega arith)
number-not-0 reason.LowAboveHigh e = absurd (omega arith)
number-not-0 reason.OtherPlan e = absurd (omega arith)
number-not-0 reason.Size e = absurd (omega arith)
number-not-0 reason.Narrowing e = absurd (omega arith)
number-not-0 reason.ConverterOutput e = absurd (omega arith)
