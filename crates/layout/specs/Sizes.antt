-- The program's sizes as the definitions' w, and the size that a caller names.
use Rattle.std.specs.Prelude.{ℕ, cond, eqb, Result, Ok, Err}
use Rattle.rules.specs.Sheet.{pollutants, more_pollutants, size}
use Rattle.refusals.specs.declared.Reason.{Reason}
use Rattle.refusals.specs.declared.Reason.TheVariants as reason
use Rattle.layout.specs.declared.Size.{Size}
use Rattle.layout.specs.declared.Size.TheVariants.{Twenty, TwentyEight}

-- the pollutants that a record has room for
abbrev pub width_is : Size → ℕ
width_is Twenty = pollutants
width_is TwentyEight = more_pollutants

-- "size not 20 or 28"
abbrev pub name_of : (s : ℕ) → Result Size Reason
name_of s = cond (eqb s (size pollutants)) (Ok Twenty) (cond (eqb s (size more_pollutants)) (Ok TwentyEight) (Err reason.Size))
