-- The kinds of a record by their numbers.
use Rattle.std.specs.Prelude.{ℕ, cond, eqb, Result, Ok, Err}
use Rattle.rules.specs.Sheet.{pollutant_kind, engine_kind, stop_kind, small_engine_kind, run_in_kind}
use Rattle.refusals.specs.declared.Reason.{Reason}
use Rattle.refusals.specs.declared.Reason.TheVariants as reason
use Rattle.record.specs.declared.Kind.{Kind}
use Rattle.record.specs.declared.Kind.TheVariants.{Pollutant, Engine, Stop, SmallEngine, RunIn}

-- the number of each
abbrev pub kind_number : Kind → ℕ
kind_number Pollutant = pollutant_kind
kind_number Engine = engine_kind
kind_number Stop = stop_kind
kind_number SmallEngine = small_engine_kind
kind_number RunIn = run_in_kind

abbrev pub kind_named : (n : ℕ) → Result Kind Reason
kind_named n =
    cond (eqb n pollutant_kind) (Ok Pollutant)
    (cond (eqb n engine_kind) (Ok Engine)
    (cond (eqb n stop_kind) (Ok Stop)
    (cond (eqb n small_engine_kind) (Ok SmallEngine)
    (cond (eqb n run_in_kind) (Ok RunIn) (Err reason.Kind)))))
