-- Lines as a program writes them, a byte at a time.
use Rattle.std.specs.Prelude.{ℕ, ◌+◌, ◌≤◌, ◌≡◌, cond, List, [], ◌∷◌, ltb, length, set, take, replicate}
use Prim.Native.Char.{code}
use Prim.Native.String.{String, [] as empty, ◌∷◌ as ◌then◌}
use Rattle.lines.specs.declared.Lines.{Lines}

-- the characters of a text, as bytes
abbrev pub ascii : String → List ℕ
ascii empty = []
ascii (c then s) = code c ∷ ascii s

-- how many bytes lines have room for
abbrev pub room : ℕ
room = 256

unfoldable pub nothing : Lines
nothing = record { bytes = replicate room 0; length = 0 }

-- with one byte more; lines that fill their room stay as they are
unfoldable pub with_byte_lem : Lines → ℕ → Lines
with_byte_lem l b = cond (ltb l.length room) (record { bytes = set l.bytes l.length b; length = l.length + 1 }) l

unfoldable pub with_bytes : Lines → List ℕ → Lines
with_bytes l [] = l
with_bytes l (b ∷ bs) = with_bytes (with_byte_lem l b) bs

-- what has been written
abbrev pub held : Lines → List ℕ
held l = take l.length l.bytes

-- `after` is `before` with the bytes bs behind it, which are at most so many
pub record Adds (before after : Lines) (bs : List ℕ) (most : ℕ) : Type 0 where
  pub adds : after ≡ with_bytes before bs
  pub few : length bs ≤ most

-- the ranges of lines: their room, and that they keep within it
pub record Kept (l : Lines) : Type 0 where
  pub roomy : length l.bytes ≡ room
  pub within : l.length ≤ room

-- lines in which the bytes bs stand, and no others
pub record Written (l : Lines) (bs : List ℕ) : Type 0 where
  pub holds : held l ≡ bs
  pub kept : Kept l
