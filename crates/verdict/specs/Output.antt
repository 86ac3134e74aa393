-- What a program that judges has written, where the bytes that its writer holds are known.
use Rattle.std.specs.Prelude.{ℕ, Bool, true, false, List, take, Option}
use Rattle.std.specs.Io.KnownBytes.{Appends}

-- the lines, all of them; where not all could be written, or the input could not be read to its end, a first part of them and nothing else
abbrev pub Answered : Bool → (old new : Option (List ℕ)) (lines : List ℕ) → Type 0
Answered true old new lines = Appends old new lines
Answered false old new lines = (some : ℕ) × Appends old new (take some lines)
