-- The program's correction of a column as document 02's.
use Rattle.std.specs.Prelude.{ℕ, ◌≤◌, ◌≡◌, true, List, length}
use Rattle.rules.specs.Logarithm as rules
use Rattle.rules.specs.Sheet.{declares}
use Rattle.rules.specs.Series.{correction}
use Rattle.accepted.specs.Sheets.{run_ins_in, engines_in}
use Rattle.tested.specs.declared.TestedSheet.{TestedSheet}
use Rattle.tested.specs.Tested.{pollutants_of, engines_of}
use Rattle.corrections.specs.declared.factors.Correction.{Correction}

abbrev pub correction_is : Correction → rules.Correction
correction_is c = record { value = c.value; first = c.first }

-- the correction of the pollutant p by the run-in values and the engines of the bytes b of w pollutants
abbrev pub correction_in : (w : ℕ) → List ℕ → (p : ℕ) → rules.Correction
correction_in w b p = correction (run_ins_in w b) (engines_in w b) p

-- a pollutant that a tested sheet declares, and the sheet has an engine
pub record CorrectionRange (sheet : TestedSheet) (p : ℕ) : Type 0 where
  pub declared : declares (pollutants_of sheet) p ≡ true
  pub tested : 1 ≤ length (engines_of sheet)

-- the program's is that correction
abbrev pub Corrects : (w : ℕ) → List ℕ → (p : ℕ) → Correction → Type 0
Corrects w b p c = correction_in w b p ≡ correction_is c
