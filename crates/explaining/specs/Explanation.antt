-- What the program `verdict` says to people of a refused sheet of 20-byte records, beside document 01's line: which record it is, and what the refusal means.
use Rattle.std.specs.Prelude.{ℕ, zero, suc, ◌+◌, cond, List, [], ◌∷◌, ◌++◌, eqb}
use Rattle.rules.specs.Sheet.{pollutants, record_size}
use Rattle.rules.specs.Refusals as rules
use Rattle.rules.specs.Printed.{decimal}
use Rattle.reading.specs.declared.Step.{Step}
use Rattle.reading.specs.declared.Step.TheVariants.{Pollutant, Engine, Stop, SmallEngine, RunIn, Other, End}
use Rattle.reading.specs.Steps.{step_at_lem}
use Rattle.lines.specs.Writing.{ascii}
use Rattle.explaining.specs.Sentences.{sentence}

-- ---- which record

abbrev pub is_engine : Step → ℕ
is_engine (Pollutant number plan limit deviation) = 0
is_engine (Engine cause measurements) = 1
is_engine Stop = 0
is_engine (SmallEngine volume speed date) = 0
is_engine (RunIn measurements) = 0
is_engine (Other kind) = 0
is_engine End = 0

-- the engines among the first k records
unfoldable pub engines_in : (b : List ℕ) (k : ℕ) → ℕ
engines_in b zero = 0
engines_in b (suc k) = engines_in b k + is_engine (step_at_lem record_size b k)

-- a record by what it is; engines are counted from 1, as on the bench
abbrev pub name : Step → (engine : ℕ) → List ℕ
name (Pollutant number plan limit deviation) engine = ascii "pollutant " ++ decimal number
name (Engine cause measurements) engine = ascii "engine " ++ decimal engine
name Stop engine = ascii "stop"
name (SmallEngine volume speed date) engine = ascii "small engine"
name (RunIn measurements) engine = ascii "run-in values"
name (Other kind) engine = ascii "kind " ++ decimal kind
name End engine = ascii "end"

-- record k, "counted from 0"; "for 1, record 0": a refused length names no record
unfoldable pub place : (b : List ℕ) (number k : ℕ) → List ℕ
place b number k = cond (eqb number 1) [] (ascii "record " ++ (decimal k ++ (ascii " (" ++ (name (step_at_lem record_size b k) (engines_in b (suc k)) ++ ascii "): "))))

-- ---- the line

abbrev pub explained_by : List ℕ → rules.Check → List ℕ
explained_by b rules.accepted = []
explained_by b (rules.refused number k) = ascii "verdict: " ++ (place b number k ++ (sentence number ++ (10 ∷ [])))

-- the line for the bytes of a sheet; none for one that is accepted
unfoldable pub explained : List ℕ → List ℕ
explained b = explained_by b (rules.check pollutants b)
