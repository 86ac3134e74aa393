-- Document 02, F-5: a sheet's pending vehicles, and the row that they hold it at.
use Rattle.std.specs.Prelude.{ℕ, suc, max, cond, List, [], ◌∷◌}
use Rattle.rules.specs.Tools.{those}
use Rattle.rules.specs.Sheet.{Record, records, cause, is_pending, engines}

-- each "a gross emitter whose finding is pending"
abbrev pub pendings : (w : ℕ) → List ℕ → List Record
pendings w b = those (λ r. is_pending (cause r)) (engines (records w b))

-- the place of the first of them among the vehicles, counted from 1; behind the last where there is none
abbrev pub first_pending : List Record → ℕ
first_pending [] = 1
first_pending (r ∷ rs) = cond (is_pending (cause r)) 1 (suc (first_pending rs))

-- "At the first row with a pending vehicle among its engines", and "Rows are walked from 3."
abbrev pub held_row : (w : ℕ) → List ℕ → ℕ
held_row w b = max 3 (first_pending (engines (records w b)))
