-- The cause of an engine by its number, as the program asks for it.
use Rattle.std.specs.Prelude.{ℕ, ◌-◌, cond, List, [], eqb, get_or}
use Rattle.rules.specs.Sheet.{cause}
use Rattle.accepted.specs.Sheets.{engines_in}

-- of engine n, counted from 1, of the bytes of w pollutants; 0 where there is none
unfoldable pub cause_of_lem : (w : ℕ) → List ℕ → (n : ℕ) → ℕ
cause_of_lem w b n = cond (eqb n 0) 0 (cause (get_or (engines_in w b) (n - 1) []))
