-- The program's answer for a range as document 02's, and what its functions hand on.
use Rattle.std.specs.Prelude.{ℕ, ◌≡◌, List, Result, Ok, Err}
use Rattle.rules.specs.Logarithm.{squarings}
use Rattle.rules.specs.Series.{Pair}
use Rattle.rules.specs.Operations.{judge}
use Rattle.rules.specs.Ranges as rules
use Rattle.checking.specs.declared.Refusal.{Refusal}
use Rattle.checking.specs.declared.sheet.AcceptedSheet.{AcceptedSheet}
use Rattle.tally.specs.declared.Verdict.{Verdict}
use Rattle.tally.specs.Judgements.{verdict_is}
use Rattle.judging_ranges.specs.declared.Range.{Range}
use Rattle.judging_ranges.specs.declared.Range.TheVariants.{PassesSurely, FailsSurely, Depends}

abbrev pub range_of : Range → rules.RangeAnswer
range_of (PassesSurely n) = rules.passes_surely n
range_of (FailsSurely n) = rules.fails_surely n
range_of Depends = rules.depends

abbrev pub range_is : Result Range Refusal → rules.RangeAnswer
range_is (Ok r) = range_of r
range_is (Err r) = rules.turned_away r.number r.place

-- what judging answers for the bytes of a sheet, whatever its pairs
abbrev pub VerdictSays : (w : ℕ) → List ℕ → Verdict → Type 0
VerdictSays w b v = (pairs : List Pair) × (judge w squarings b ≡ verdict_is v pairs)

-- the records of both sheets are of one size
pub record BothSized (low high : AcceptedSheet) : Type 0 where
  pub same_size : low.size ≡ high.size
