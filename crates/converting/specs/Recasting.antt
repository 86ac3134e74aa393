-- What the converter's loop writes, both ways: of each record the first 20 bytes, and zeros.
use Rattle.std.specs.Prelude.{ℕ, ◌+◌, ◌-◌, ◌*◌, ◌/◌, ◌%◌, ◌≤◌, ◌≡◌, List, length}
use Rattle.rules.specs.Sheet.{pollutants, more_pollutants, size}
use Rattle.sizes.specs.Recast.{recast_record, mapped}
use Rattle.layout.specs.declared.Size.{Size}
use Rattle.layout.specs.declared.Size.TheVariants.{Twenty, TwentyEight}

-- the zeros of a record of the other size
abbrev pub added_bytes_lem : Size → ℕ
added_bytes_lem Twenty = size more_pollutants - size pollutants
added_bytes_lem TwentyEight = 0

-- the records of w pollutants of the bytes b, each with its first 20 bytes and e zeros
abbrev pub recast : (w e : ℕ) → List ℕ → List ℕ
recast w e b = mapped w (recast_record pollutants e) b

-- ---- ranges

-- whole records of a size that there is, and room for as many of the other
pub record RecastRange (w e : ℕ) (sheet output : List ℕ) : Type 0 where
  pub wide : pollutants ≤ w
  pub whole : length sheet % size w ≡ 0
  pub few : e ≤ 8
  pub room : (20 + e) * (length sheet / size w) ≤ length output
