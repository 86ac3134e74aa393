-- A logarithm in the making, as the definitions make it.
use Rattle.std.specs.Prelude.{ℕ, ◌+◌, ◌-◌, ◌*◌, ◌^◌, ◌≤◌, ◌<◌}
use Rattle.rules.specs.Logarithm.{exponent, bit, next}
use Rattle.logarithm.specs.declared.Unfinished.{Unfinished}

-- M has 32 binary digits
abbrev pub Scaled : ℕ → Type 0
Scaled M = (2 ^ 31 ≤ M) × (M < 2 ^ 32)

-- there is room for one more bit
pub record Fits (x : Unfinished) : Type 0 where
  pub scaled : Scaled x.scaled
  pub few : x.bits < 2 ^ 30

abbrev pub start_of : (m : ℕ) → Unfinished
start_of m = record { bits = exponent m; scaled = m * 2 ^ (31 - exponent m) }

abbrev pub next_of : Unfinished → Unfinished
next_of x = record { bits = x.bits * 2 + bit x.scaled; scaled = next x.scaled }
