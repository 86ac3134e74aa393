-- What the records before one say, as the program keeps it: a record at a time.
use Rattle.std.specs.Prelude.{ℕ, ◌+◌, ◌≤◌, ◌<◌, Bool, ◌||◌, cond, eqb}
use Rattle.rules.specs.Logarithm.{greatest}
use Rattle.rules.specs.Sheet.{Record, pollutant_kind, engine_kind, stop_kind, small_engine_kind, run_in_kind, kind, number, plan, limit}
use Rattle.rules.specs.Plans.{in_service_lem, number_of, plan_of, last_row_lem}
use Rattle.pollutants.specs.declared.Each.{Each}
use Rattle.pollutants.specs.Each.{all_lem, with_lem}
use Rattle.summary.specs.declared.Summary.{Summary}

-- no record yet
abbrev pub nothing : Summary
nothing =
    record {
      kind = 0;
      plan = 0;
      last_row = 0;
      number = 0;
      limits = all_lem 0;
      pollutants = 0;
      head = 0;
      engines = 0;
    }

-- what is said once the record r, which has no fault, is read too
unfoldable pub summary_with : Summary → Record → Summary
summary_with s r =
    record {
      kind = kind r;
      plan = cond (eqb (kind r) pollutant_kind) (plan r) s.plan;
      last_row = cond (eqb (kind r) pollutant_kind) (last_row_lem (plan_of (plan r))) s.last_row;
      number = cond (eqb (kind r) pollutant_kind) (number r) s.number;
      limits = cond (eqb (kind r) pollutant_kind) (with_lem s.limits (number r) (limit r)) s.limits;
      pollutants = cond (eqb (kind r) pollutant_kind) (s.pollutants + 1) s.pollutants;
      head = cond (eqb (kind r) pollutant_kind || (eqb (kind r) small_engine_kind || eqb (kind r) run_in_kind)) (s.head + 1) s.head;
      engines = cond (eqb (kind r) engine_kind) (s.engines + 1) s.engines;
    }

-- 3, of another kind than a pollutant: it would be the first record, or stand behind a stop
abbrev pub misplaces_others_lem : Summary → Bool
misplaces_others_lem s = eqb s.kind 0 || eqb s.kind stop_kind

-- 19, of run-in values: they would stand behind others or behind an engine, or in plan 4
abbrev pub misplaces_run_in_lem : Summary → Bool
misplaces_run_in_lem s = eqb s.kind run_in_kind || eqb s.kind engine_kind || eqb s.plan (number_of in_service_lem)

-- what a summary must leave room for, so that another record is read: the counts of a sheet are at most 41
pub record Room (s : Summary) : Type 0 where
  pub pollutants : s.pollutants < 1000
  pub head : s.head < 1000
  pub engines : s.engines < 1000

-- a limit in range; 0 stands for an undeclared pollutant
pub record LimitRange (limit : ℕ) : Type 0 where
  pub most : limit ≤ greatest

-- the limits of pollutants that have no fault
pub record Limits (limits : Each ℕ) : Type 0 where
  pub co : LimitRange limits.co
  pub hc : LimitRange limits.hc
  pub nox : LimitRange limits.nox
  pub pm : LimitRange limits.pm
  pub fifth : LimitRange limits.fifth
  pub sixth : LimitRange limits.sixth
