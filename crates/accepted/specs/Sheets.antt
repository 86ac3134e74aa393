-- The bytes of an accepted sheet of w pollutants, as judging goes through them.
use Rattle.std.specs.Prelude.{ℕ, ◌*◌, ◌≤◌, ◌≡◌, List, length, take, drop}
use Rattle.rules.specs.Sheet.{Record, Pollutant, more_pollutants, size, records, heading, engines, run_ins, declared, plan_number}
use Rattle.rules.specs.Plans.{Plan, plan_of}
use Rattle.rules.specs.Refusals.{accepted, check}

module _ (w : ℕ) (b : List ℕ) where
  -- record k of the bytes
  abbrev pub record_at_lem : (k : ℕ) → Record
  record_at_lem k = take (size w) (drop (size w * k) b)

  -- their declared pollutants, their run-in values, and their engines
  abbrev pub pollutants_in : List Pollutant
  pollutants_in = declared (records w b)

  abbrev pub run_ins_in : List Record
  run_ins_in = run_ins (records w b)

  abbrev pub engines_in : List Record
  engines_in = engines (records w b)

  -- a sheet that the check accepts, of a size that there is, with its plan and the place of its first engine's record
  pub record AcceptedSheet (plan : Plan) (start : ℕ) : Type 0 where
    pub sized : w ≤ more_pollutants
    pub accepts : check w b ≡ accepted
    pub planned : plan ≡ plan_of (plan_number (records w b))
    pub starts : start ≡ length (heading (records w b))
