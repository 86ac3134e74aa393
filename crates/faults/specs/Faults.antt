-- The refusal of a record by what the program keeps of the records before it; proofs/Agreement: it is document 01's.
use Rattle.std.specs.Prelude.{ℕ, Bool, not, ◌&&◌, cond, leb, eqb}
use Rattle.rules.specs.Sheet.{Record, pollutant_kind, engine_kind, stop_kind, small_engine_kind, run_in_kind, kind}
use Rattle.rules.specs.Plans.{in_service_lem, number_of}
use Rattle.layout.specs.declared.Size.{Size}
use Rattle.zeros.specs.Zeros.{unused_from_twelve_lem, engine_unused, stop_unused_lem}
use Rattle.summary.specs.declared.Summary.{Summary}
use Rattle.summary.specs.State.{misplaces_others_lem, misplaces_run_in_lem}
use Rattle.declarations.specs.Declarations.{pollutant_fault_lem}
use Rattle.measurements.specs.Measurements.{bad_measurement_by, bad_behind_lem}
use Rattle.gross_emitters.specs.GrossEmitters.{bad_cause_by}
use Rattle.small_engines.specs.SmallEngines.{small_engine_fault_lem}

-- 3, 8, 9, 10 and 12 of an engine
unfoldable pub engine_fault_lem : Size → Summary → Record → ℕ
engine_fault_lem z s r =
    cond (misplaces_others_lem s) 3
    (cond (bad_measurement_by s.limits r) 8
    (cond (bad_behind_lem z s.limits r) 8
    (cond (bad_cause_by z s r) 9
    (cond (leb s.last_row s.engines) 10
    (cond (engine_unused r) 12 0)))))

-- the same with another number in place of 9
unfoldable pub engine_fault_by : Size → Summary → Record → (cause : ℕ) → ℕ
engine_fault_by z s r n =
    cond (misplaces_others_lem s) 3
    (cond (bad_measurement_by s.limits r) 8
    (cond (bad_behind_lem z s.limits r) 8
    (cond (bad_cause_by z s r) n
    (cond (leb s.last_row s.engines) 10
    (cond (engine_unused r) 12 0)))))

-- 19 of run-in values, behind 3; else what is said of an engine, and 12 for a cause
abbrev pub as_twelve : (n : ℕ) → ℕ
as_twelve n = cond (eqb n 9) 12 n

unfoldable pub run_in_fault : Size → Summary → Record → ℕ
run_in_fault z s r = cond (not (misplaces_others_lem s) && misplaces_run_in_lem s) 19 (as_twelve (engine_fault_lem z s r))

-- 3, 11 and 12 of a stop
unfoldable pub stop_fault_lem : Summary → Record → (rest : Bool) → ℕ
stop_fault_lem s r rest =
    cond (misplaces_others_lem s) 3
    (cond (eqb s.plan (number_of in_service_lem)) 11
    (cond (stop_unused_lem r rest) 12 0))

-- of a record of that kind, which holds no measurements: 2, of one that is none
unfoldable pub unmeasured_fault_lem : Size → Summary → Record → (kind : ℕ) → ℕ
unmeasured_fault_lem z s r k =
    cond (eqb k pollutant_kind) (pollutant_fault_lem z s r (unused_from_twelve_lem z r))
    (cond (eqb k stop_kind) (stop_fault_lem s r (unused_from_twelve_lem z r))
    (cond (eqb k small_engine_kind) (small_engine_fault_lem s r (unused_from_twelve_lem z r)) 2))

unfoldable pub fault_by : Size → Summary → Record → ℕ
fault_by z s r =
    cond (eqb (kind r) engine_kind) (engine_fault_lem z s r)
    (cond (eqb (kind r) run_in_kind) (run_in_fault z s r) (unmeasured_fault_lem z s r (kind r)))
