-- Four logarithms at a time.
use Rattle.std.specs.Prelude.{ℕ, ◌≤◌, List, map, get_or}
use Rattle.rules.specs.Logarithm.{greatest, squarings, g}

-- "m from 1 to 9,999,999"
abbrev pub Measured : ℕ → Type 0
Measured m = (1 ≤ m) × (m ≤ greatest)

-- each of the four is
pub record FourRanges (m : List ℕ) : Type 0 where
  pub a : Measured (get_or m 0 0)
  pub b : Measured (get_or m 1 0)
  pub c : Measured (get_or m 2 0)
  pub d : Measured (get_or m 3 0)

-- g of each
abbrev pub logarithms_of : List ℕ → List ℕ
logarithms_of m = map (g squarings) m
