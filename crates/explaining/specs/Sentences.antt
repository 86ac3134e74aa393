-- What each refusal of a sheet means, in words for people. `conformity_refusal_text` of include/conformity.h says the same, and a test compares the two.
use Rattle.std.specs.Prelude.{ℕ, zero, suc, cond, List, [], ◌∷◌, eqb}
use Prim.Native.String.{String}
use Rattle.lines.specs.Writing.{ascii}

-- a refusal's number, and its sentence
pub data Sentence : Type 0 where
  ◌means◌ : ℕ → String → Sentence

infix 80 ◌means◌
abbrev pub sentences : List Sentence
sentences =
    1 means "the sheet is empty, not a whole number of records, or longer than 780 bytes"
    ∷ 2 means "the record's kind is not 1, 2, 3, 5 or 6"
    ∷ 3 means "the first record is no pollutant, a pollutant follows another kind, or a record follows the stop"
    ∷ 4 means "the pollutant number is not 1 to 4, or not above the one before"
    ∷ 5 means "the plan is not 1 to 5, or unlike the first pollutant's"
    ∷ 6 means "the limit is not 1 to 9999999"
    ∷ 7 means "the deviation is not 1 to 4000000 in plan 1, or not 0 in another plan"
    ∷ 8 means "a measurement is not 1 to 9999999, or one of an undeclared pollutant is not 0"
    ∷ 9 means "the cause is 0 for a gross emitter in plan 4, or not 0 for any other engine"
    ∷ 10 means "there are more engines than the plan's last row"
    ∷ 11 means "plan 4 knows no stop by the manufacturer"
    ∷ 12 means "a byte that must be zero is not"
    ∷ 16 means "the small engine is a second one, is not straight after the pollutants, or is in plan 4"
    ∷ 17 means "the date is no day of the years 1 to 9999"
    ∷ 18 means "the particulate limit is not the one for the volume, speed and date: 250 or 150"
    ∷ 19 means "the run-in record is a second one, follows an engine, or is in plan 4"
    ∷ []

-- no words for a number that is not among them
abbrev pub meaning : List Sentence → (number : ℕ) → List ℕ
meaning [] n = []
meaning (k means t ∷ others) n = cond (eqb n k) (ascii t) (meaning others n)

unfoldable pub sentence : (number : ℕ) → List ℕ
sentence n = meaning sentences n

-- line k of a text, counted from 0, up to its newline
unfoldable pub line_of : List ℕ → (k : ℕ) → List ℕ
line_of [] k = []
line_of (b ∷ bs) zero = cond (eqb b 10) [] (b ∷ line_of bs zero)
line_of (b ∷ bs) (suc k) = line_of bs (cond (eqb b 10) k (suc k))
