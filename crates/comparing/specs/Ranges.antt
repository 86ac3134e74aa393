-- What two sheets that are compared must lie within.
use Rattle.std.specs.Prelude.{ℕ, ◌+◌, ◌≤◌, ◌≡◌, List, length}
use Rattle.rules.specs.Sheet.{records, plan_number}
use Rattle.rules.specs.Plans.{plan_of}
use Rattle.accepted.specs.Sheets.{AcceptedSheet}
use Rattle.rules.specs.Refusals.{accepted, check}

-- so many bytes from byte i on, in both of these lengths
pub record BothRange (i many low high : ℕ) : Type 0 where
  pub in_low : i + many ≤ low
  pub in_high : i + many ≤ high

-- as many records in both
pub record RecordsRange (low high : ℕ) : Type 0 where
  pub equally_long : low ≡ high

-- two accepted sheets that are equally long, and the place of the low one's first engine
pub record CompareRange (w : ℕ) (low high : List ℕ) (start : ℕ) : Type 0 where
  pub low_sheet : AcceptedSheet w low (plan_of (plan_number (records w low))) start
  pub high_accepted : check w high ≡ accepted
  pub equally_long : length low ≡ length high
