-- The numbers of documents 01 and 02.
use Rattle.std.specs.Prelude.{ℕ, Result, Ok, Err}
use Rattle.refusals.specs.declared.Reason.{Reason}
use Rattle.refusals.specs.declared.Reason.TheVariants as reason

abbrev pub number_is : Reason → ℕ
number_is reason.Length = 1
number_is reason.Kind = 2
number_is reason.Order = 3
number_is reason.PollutantNumber = 4
number_is reason.Plan = 5
number_is reason.Limit = 6
number_is reason.Deviation = 7
number_is reason.Measurement = 8
number_is reason.Cause = 9
number_is reason.TooManyEngines = 10
number_is reason.Stop = 11
number_is reason.UnusedByte = 12
number_is reason.NoRoom = 13
number_is reason.RecordLength = 14
number_is reason.OutputLength = 15
number_is reason.SmallEngine = 16
number_is reason.Date = 17
number_is reason.ParticulateLimit = 18
number_is reason.RunIn = 19
number_is reason.TestCount = 20
number_is reason.Value = 21
number_is reason.TestAfterDecision = 22
number_is reason.NotPending = 23
number_is reason.Finding = 24
number_is reason.SheetsDiffer = 27
number_is reason.LowAboveHigh = 28
number_is reason.OtherPlan = 29
number_is reason.Size = 30
number_is reason.Narrowing = 31
number_is reason.ConverterOutput = 32

-- the number of a refusal, 0 where there is none
abbrev pub fault_number : {A : Type 0} → Result A Reason → ℕ
fault_number (Ok x) = 0
fault_number (Err r) = number_is r
