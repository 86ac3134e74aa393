-- What the entries answer: a reader that is moved on from the start of a sheet, and an output afterwards.
use Rattle.std.specs.Prelude.{ℕ, min, cond, List, [], ◌∷◌, ◌++◌, leb, length, drop}
use Rattle.rules.specs.Sizes.{records_sized}
use Rattle.reading.specs.declared.Step.{Step}
use Rattle.reading.specs.declared.Step.TheVariants.{Pollutant, Engine, Stop, SmallEngine, RunIn, Other, End}

-- the number after k moves: behind the last record it stays
unfoldable pub reached : (s : ℕ) (b : List ℕ) (k : ℕ) → ℕ
reached s b k = min k (length (records_sized s b))

-- which step it is, by the record's kind, 100 for a kind that there is not and 101 for the end; and its fields
abbrev pub numbers_of_lem : Step → List ℕ
numbers_of_lem (Pollutant number plan limit deviation) = 1 ∷ number ∷ plan ∷ limit ∷ deviation ∷ 0 ∷ 0 ∷ 0 ∷ []
numbers_of_lem (Engine cause x) = 2 ∷ cause ∷ x.co ∷ x.hc ∷ x.nox ∷ x.pm ∷ x.fifth ∷ x.sixth ∷ []
numbers_of_lem Stop = 3 ∷ 0 ∷ 0 ∷ 0 ∷ 0 ∷ 0 ∷ 0 ∷ 0 ∷ []
numbers_of_lem (SmallEngine volume speed date) = 5 ∷ volume ∷ speed ∷ date ∷ 0 ∷ 0 ∷ 0 ∷ 0 ∷ []
numbers_of_lem (RunIn x) = 6 ∷ 0 ∷ x.co ∷ x.hc ∷ x.nox ∷ x.pm ∷ x.fifth ∷ x.sixth ∷ []
numbers_of_lem (Other kind) = 100 ∷ kind ∷ 0 ∷ 0 ∷ 0 ∷ 0 ∷ 0 ∷ 0 ∷ []
numbers_of_lem End = 101 ∷ 0 ∷ 0 ∷ 0 ∷ 0 ∷ 0 ∷ 0 ∷ 0 ∷ []

-- the bytes bs at the start of the output o, where they fit, and the rest as it was
unfoldable pub placed : (bs o : List ℕ) → List ℕ
placed bs o = cond (leb (length bs) (length o)) (bs ++ drop (length bs) o) o
