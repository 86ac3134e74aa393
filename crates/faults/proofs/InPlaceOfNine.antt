-- The refusal of an engine with another number in place of 9: 9 itself, or 12.
use Rattle.arithmetic.proofs.Basics.{◌≡◌, refl, Bool, true, false, cond, leb}
use Rattle.rules.specs.Sheet.{Record}
use Rattle.layout.specs.declared.Size.{Size}
use Rattle.summary.specs.declared.Summary.{Summary}
use Rattle.summary.specs.State.{misplaces_others_lem}
use Rattle.zeros.specs.Zeros.{engine_unused}
use Rattle.measurements.specs.Measurements.{bad_measurement_by, bad_behind_lem}
use Rattle.gross_emitters.specs.GrossEmitters.{bad_cause_by}
use Rattle.faults.specs.Faults.{engine_fault_lem, engine_fault_by, as_twelve}

module _ (z : Size) (s : Summary) (r : Record) where
  pub by-nine : engine_fault_by z s r 9 ≡ engine_fault_lem z s r
  unfolding engine_fault_by engine_fault_lem
  by-nine = refl

  in_place : (a b c d e f : Bool)
      → cond a 3 (cond b 8 (cond c 8 (cond d 12 (cond e 10 (cond f 12 0))))) ≡ as_twelve (cond a 3 (cond b 8 (cond c 8 (cond d 9 (cond e 10 (cond f 12 0))))))
  in_place true b c d e f = refl
  in_place false true c d e f = refl
  in_place false false true d e f = refl
  in_place false false false true e f = refl
  in_place false false false false true f = refl
  in_place false false false false false true = refl
  in_place false false false false false false = refl

  pub by-twelve : engine_fault_by z s r 12 ≡ as_twelve (engine_fault_lem z s r)
  unfolding engine_fault_by engine_fault_lem
  by-twelve =
      in_place (misplaces_others_lem s) (bad_measurement_by s.limits r) (bad_behind_lem z s.limits r) (bad_cause_by z s r) (leb s.last_row s.engines) (engine_unused r)
