-- The refusal of a pollutant by what the program keeps of the records before it; faults/proofs/Agreement: it is document 01's.
use Rattle.std.specs.Prelude.{ℕ, Bool, not, ◌&&◌, ◌||◌, cond, leb, ltb, eqb}
use Rattle.rules.specs.Tools.{within}
use Rattle.rules.specs.Logarithm.{greatest}
use Rattle.rules.specs.Sheet.{Record, pollutant_kind, number, plan, limit, deviation}
use Rattle.rules.specs.Refusals.{greatest_deviation}
use Rattle.rules.specs.Plans.{known_deviation_lem, plan_count, number_of}
use Rattle.layout.specs.declared.Size.{Size}
use Rattle.layout.specs.Sizes.{width_is}
use Rattle.zeros.specs.Zeros.{pollutant_unused_lem}
use Rattle.summary.specs.declared.Summary.{Summary}

-- 3 to 7 and 12 of a pollutant, by its numbers, where there are w of them
unfoldable pub pollutant_by_lem : (w : ℕ) → Summary → (number plan limit deviation : ℕ) → (unused : Bool) → ℕ
pollutant_by_lem w s number plan limit deviation unused =
    cond (ltb pollutant_kind s.kind) 3
    (cond (not (within 1 w number) || leb number s.number) 4
    (cond (not (within 1 plan_count plan) || not (eqb s.kind 0) && not (eqb plan s.plan)) 5
    (cond (not (within 1 greatest limit)) 6
    (cond (eqb plan (number_of known_deviation_lem) && not (within 1 greatest_deviation deviation) || not (eqb plan (number_of known_deviation_lem)) && not (eqb deviation 0)) 7
    (cond unused 12 0)))))

unfoldable pub pollutant_fault_lem : Size → Summary → Record → (rest : Bool) → ℕ
pollutant_fault_lem z s r rest = pollutant_by_lem (width_is z) s (number r) (plan r) (limit r) (deviation r) (pollutant_unused_lem r rest)
