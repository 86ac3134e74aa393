-- What bytes and a number that are read must lie within.
use Rattle.std.specs.Prelude.{ℕ, ◌+◌, ◌^◌, ◌≤◌, ◌<◌}

-- so many bytes from byte i on, of n
pub record ByteRange (i many n : ℕ) : Type 0 where
  pub inside : i + many ≤ n

-- the place of a number in a record, far below what a count can hold, so that the bytes behind it have a place too
pub record PlaceRange (i bits : ℕ) : Type 0 where
  pub most : i < 2 ^ bits
