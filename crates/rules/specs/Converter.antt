-- Document 02, F-10, "a converter carries accepted sheets both ways, record by record": from w pollutants to w + k, and back.
use Rattle.std.specs.Prelude.{ℕ, ◌+◌, ◌-◌, ◌*◌, Bool, cond, List, [], ◌∷◌, ◌++◌, map, ltb, eqb, length, take, drop, replicate}
use Rattle.rules.specs.Tools.{any}
use Rattle.rules.specs.Sheet.{Record, Pollutant, pollutants, more_pollutants, size, records, declared}
use Rattle.rules.specs.Refusals.{Check, accepted, refused, check}
use Rattle.rules.specs.Operations.{and_then, on_success}

-- ---- the sheet in the other size

-- the bytes of records, one behind the other
abbrev pub joined_bytes : List Record → List ℕ
joined_bytes [] = []
joined_bytes (r ∷ rs) = r ++ joined_bytes rs

-- "added bytes zero"
abbrev pub widened_record : (k : ℕ) → Record → Record
widened_record k r = r ++ replicate (4 * k) 0

-- "other fields keep their bytes": as many as the narrower record has
abbrev pub narrowed_record : (w : ℕ) → Record → Record
narrowed_record w r = take (size w) r

-- a sheet of w pollutants, "record by record"
unfoldable pub widen : (w k : ℕ) → List ℕ → List ℕ
widen w k b = joined_bytes (map (widened_record k) (records w b))

-- a sheet of w + k pollutants
unfoldable pub narrow : (w k : ℕ) → List ℕ → List ℕ
narrow w k b = joined_bytes (map (narrowed_record w) (records (w + k) b))

-- ---- what the converter turns down: "the checks of a sheet, by its size"

-- some of the pollutants has a number above w
abbrev pub above : (w : ℕ) → List Pollutant → Bool
above w ps = any (λ c. ltb w c.number) ps

-- "a sheet that declares pollutant 5 or 6"
unfoldable pub declares_above : (w k : ℕ) → List ℕ → Bool
declares_above w k b = above w (declared (records (w + k) b))

-- "32, converter output too short, after 31"
abbrev pub room_for : (form o : List ℕ) → Check
room_for form o = cond (ltb (length o) (length form)) (refused 32 0) accepted

abbrev pub widening : (w k : ℕ) → (b o : List ℕ) → Check
widening w k b o = and_then (check w b) (room_for (widen w k b) o)

-- "31, narrowing a sheet that declares pollutant 5 or 6, after the sheet's checks"
abbrev pub narrowing : (w k : ℕ) → (b o : List ℕ) → Check
narrowing w k b o = and_then (check (w + k) b) (cond (declares_above w k b) (refused 31 0) (room_for (narrow w k b) o))

-- ---- the converter on the sheet b of records of s bytes, into the output o

-- "30, size not 20 or 28, before every other"
unfoldable pub convert : (w k s : ℕ) → (b o : List ℕ) → Check
convert w k s b o = cond (eqb s (size w)) (widening w k b o) (cond (eqb s (size (w + k))) (narrowing w k b o) (refused 30 0))

-- the sheet that the output gets, of the size that the given one has not
abbrev pub other_form : (w k s : ℕ) → List ℕ → List ℕ
other_form w k s b = cond (eqb s (size w)) (widen w k b) (narrow w k b)

-- what the output holds afterwards: "output bytes past the sheet untouched"
unfoldable pub converted : (w k s : ℕ) → (b o : List ℕ) → List ℕ
converted w k s b o = on_success (convert w k s b o) (other_form w k s b ++ drop (length (other_form w k s b)) o) o

-- as the product has it: from four pollutants to six, and back
abbrev pub added_pollutants : ℕ
added_pollutants = more_pollutants - pollutants
