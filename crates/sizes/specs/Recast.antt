-- Both ways of the converter as one: of each record the first bytes, then zeros. proofs/Mapped shows `widen` and `narrow` equal to it.
use Rattle.std.specs.Prelude.{ℕ, List, ◌++◌, map, take, replicate}
use Rattle.rules.specs.Sheet.{Record, size, records}
use Rattle.rules.specs.Converter.{joined_bytes}

-- as many bytes as a record of w pollutants has, and e zeros
abbrev pub recast_record : (w e : ℕ) → Record → Record
recast_record w e r = take (size w) r ++ replicate e 0

-- f of each record of w pollutants, one behind the other
abbrev pub mapped : (w : ℕ) → (f : Record → Record) → List ℕ → List ℕ
mapped w f b = joined_bytes (map f (records w b))
