-- The bytes that calls move, where those that a reader has left, or that a writer holds, are known.
use Rattle.std.specs.Prelude.{ℕ, ◌+◌, ◌≡◌, ◌<◌, List, take, Option, Result, Ok, Err}
use Rattle.std.specs.Io.KnownBytes.{Consumes, Appends, IsAtEnd}
use Rattle.std.specs.declared.io.Error.{Error}
use Rattle.transfers.specs.declared.Transfer.{Transfer}
use Rattle.transfers.specs.declared.Transfer.TheVariants.{Ended, Full}
use Rattle.transfers.specs.Transfers.{Answer}

-- ---- whatever is moved, M of so many bytes, and E at the end

-- a call's bytes come behind the first `moved`; it moves none only at the end, or where there is no room
abbrev pub MovedOn : (M : ℕ → Type 0) (E : Type 0) (size moved : ℕ) → Answer → Type 0
MovedOn M E size moved (Ok n) = M (moved + n) × (n ≡ 0 → moved < size → E)
MovedOn M E size moved (Err e) = M moved

-- a transfer has moved as many as it says; one that failed some
abbrev pub HasMoved : (M : ℕ → Type 0) (E : Type 0) → Result Transfer Error → Type 0
HasMoved M E (Ok (Ended moved failed)) = M moved × E
HasMoved M E (Ok (Full moved)) = M moved
HasMoved M E (Err e) = (some : ℕ) × M some

-- ---- a transfer

-- the buffer begins with the bytes that the reader gave, in their order; a transfer that ended has all that the reader had, and one that failed some
abbrev pub HasRead : (old new : Option (List ℕ)) (buffer : List ℕ) → Result Transfer Error → Type 0
HasRead old new buffer (Ok (Ended moved failed)) = Consumes old new (take moved buffer) × IsAtEnd new
HasRead old new buffer (Ok (Full moved)) = Consumes old new (take moved buffer)
HasRead old new buffer (Err e) = (some : ℕ) × Consumes old new (take some buffer)

-- the writer has the first of the bytes, in their order, behind those that it held; it is not said how many where a transfer failed
abbrev pub HasWritten : (old new : Option (List ℕ)) (bytes : List ℕ) → Result Transfer Error → Type 0
HasWritten old new bytes (Ok (Ended moved failed)) = Appends old new (take moved bytes)
HasWritten old new bytes (Ok (Full moved)) = Appends old new (take moved bytes)
HasWritten old new bytes (Err e) = (some : ℕ) × Appends old new (take some bytes)
