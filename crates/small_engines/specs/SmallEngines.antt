-- The refusal of a small engine by what the program keeps of the records before it; faults/proofs/Agreement: it is document 02's.
use Rattle.std.specs.Prelude.{ℕ, Bool, not, ◌&&◌, ◌||◌, cond, eqb}
use Rattle.rules.specs.Sheet.{Record, pollutant_kind, volume, speed, date}
use Rattle.rules.specs.Plans.{in_service_lem, number_of}
use Rattle.rules.specs.Refusals.{bad_date_lem, particulate_limit_lem}
use Rattle.zeros.specs.Zeros.{small_engine_unused_lem}
use Rattle.summary.specs.declared.Summary.{Summary}
use Rattle.summary.specs.State.{misplaces_others_lem}

-- 16: behind a pollutant there is no other small engine
abbrev pub bad_small_engine_by : Summary → Bool
bad_small_engine_by s = not (eqb s.kind pollutant_kind) || eqb s.plan (number_of in_service_lem)

-- 18: a limit of 0 stands for undeclared particulates
unfoldable pub bad_particulate_by : (limit : ℕ) → Record → Bool
bad_particulate_by limit r = not (eqb limit 0) && not (eqb limit (particulate_limit_lem (volume r) (speed r) (date r)))

-- 3, 16, 17, 18 and 12 of a small engine
unfoldable pub small_engine_fault_lem : Summary → Record → (rest : Bool) → ℕ
small_engine_fault_lem s r rest =
    cond (misplaces_others_lem s) 3
    (cond (bad_small_engine_by s) 16
    (cond (bad_date_lem r) 17
    (cond (bad_particulate_by s.limits.pm r) 18
    (cond (small_engine_unused_lem r rest) 12 0))))
