-- The program's tally of the columns as the law's.
use Rattle.std.specs.Prelude.{ℕ, ◌<◌, ◌≡◌, Bool, List}
use Rattle.rules.specs.Series.{Pair}
use Rattle.columns.specs.Columns.{rows_of}
use Rattle.columns.specs.Tally as columns
use Rattle.causes.specs.declared.Gate.{Gate}
use Rattle.causes.specs.Causes.{gate_is}
use Rattle.decisions.specs.Decisions.{decisions_is}
use Rattle.tally.specs.declared.Verdict.{Verdict}
use Rattle.tally.specs.declared.Tally.{Tally}
use Rattle.tally.specs.Judgements.{verdict_is}

abbrev pub tally_is : Tally → columns.Tally
tally_is t =
    record { rows = t.rows; failed = t.failed; waits = t.waits; latest = t.latest; decisions = decisions_is t.decisions }

-- whatever the decisions come to
abbrev pub VerdictIs : Tally → Gate → (stop : Bool) → (engines : ℕ) → Verdict → Type 0
VerdictIs t g stop engines v =
    (pairs : List Pair) → verdict_is v pairs ≡ columns.tallied_by t.failed t.waits stop engines (gate_is g) t.rows t.latest pairs

-- the row behind a gate has a number too
pub record GateFits (g : Gate) : Type 0 where
  pub few : rows_of (gate_is g) < 100
