-- Document 01, "The sheet": records and fields. w is the number of pollutants that the format has room for.
use Rattle.std.specs.Prelude.{ℕ, zero, suc, ◌+◌, ◌*◌, ◌/◌, Bool, not, ◌||◌, List, [], ◌∷◌, ◌++◌, map, ltb, eqb, length, get_or, take, drop}
use Rattle.rules.specs.Tools.{any, those, byte, two, four}

-- "four u32 measurements", and 02, F-10: "A 28-byte record has six measurements"
abbrev pub pollutants : ℕ
pollutants = 4

abbrev pub more_pollutants : ℕ
more_pollutants = 6

-- the bytes of a record
abbrev pub Record : Type 0
Record = List ℕ

-- "Records of 20 bytes", and of 28
abbrev pub size : (w : ℕ) → ℕ
size w = 4 + 4 * w

-- 02, F-1: "A sheet may hold 38 records.", and F-2: "The record limit rises by one.": each pollutant once, a small engine, the run-in
-- values, 32 engines and a stop; F-10: "A sheet of the new size holds two records more than the old maximum"
abbrev pub most : (w : ℕ) → ℕ
most w = w + 35

-- the same for document 01's four pollutants: 20 bytes, 39 records, 780 bytes
abbrev pub record_size : ℕ
record_size = size pollutants

abbrev pub most_records : ℕ
most_records = most pollutants

abbrev pub longest : ℕ
longest = most_records * record_size

-- the first n records of the bytes b, each of s bytes
unfoldable pub cut : (s n : ℕ) → List ℕ → List Record
cut s zero b = []
cut s (suc n) b = take s b ∷ cut s n (drop s b)

-- "no header"
unfoldable pub records : (w : ℕ) → List ℕ → List Record
records w b = cut (size w) (length b / size w) b

-- "Byte 0 is the kind": 1 pollutant, 2 engine or vehicle, 3 testing stopped by the manufacturer; 02, F-1: "record kind 5", what makes an
-- engine a small one; 02, F-2: "Record kind 6", the first engine's values after running-in
abbrev pub pollutant_kind : ℕ
pollutant_kind = 1

abbrev pub engine_kind : ℕ
engine_kind = 2

abbrev pub stop_kind : ℕ
stop_kind = 3

abbrev pub small_engine_kind : ℕ
small_engine_kind = 5

abbrev pub run_in_kind : ℕ
run_in_kind = 6

-- the kinds that hold measurements; 02, F-2: "On a run-in sheet the run-in values are measurements too"
abbrev pub measures : (kind : ℕ) → Bool
measures k = eqb k engine_kind || eqb k run_in_kind

unfoldable pub kind : Record → ℕ
kind r = byte r 0

-- kind 1: "byte 1 pollutant number ..; byte 2 plan ..; bytes 4-7 limit L; bytes 8-11 deviation t"
unfoldable pub number : Record → ℕ
number r = byte r 1

unfoldable pub plan : Record → ℕ
plan r = byte r 2

unfoldable pub limit : Record → ℕ
limit r = four r 4

unfoldable pub deviation : Record → ℕ
deviation r = four r 8

-- kind 2: "bytes 2-3 cause; bytes 4-19 four u32 measurements, pollutant 1 first"; 02, F-10: "the new ones zero or measurements 5 and 6";
-- and kind 6, 02, F-2: "laid out as measurements"
unfoldable pub cause : Record → ℕ
cause r = two r 2

-- 02, F-5: "Cause 65,535 now marks a gross emitter whose finding is pending"
abbrev pub pending : ℕ
pending = 65535

abbrev pub is_pending : (cause : ℕ) → Bool
is_pending c = eqb c pending

unfoldable pub measurement : Record → (pollutant : ℕ) → ℕ
measurement r p = four r (4 * p)

-- kind 5, 02, F-1: "bytes 2-3 swept volume per cylinder in cm³, bytes 4-5 rated speed per minute, bytes 8-11 test date"
unfoldable pub volume : Record → ℕ
volume r = two r 2

unfoldable pub speed : Record → ℕ
speed r = two r 4

unfoldable pub date : Record → ℕ
date r = four r 8

-- the records of a kind, in their order
unfoldable pub of_kind : ℕ → List Record → List Record
of_kind k rs = those (λ r. eqb (kind r) k) rs

-- "Its engines are its records of kind 2"
abbrev pub engines : List Record → List Record
engines rs = of_kind engine_kind rs

-- 02, F-2: a run-in sheet has one, and no other sheet has any
abbrev pub run_ins : List Record → List Record
run_ins rs = of_kind run_in_kind rs

-- the records of every other kind but a stop: on an accepted sheet, those before the first engine
unfoldable pub heading : List Record → List Record
heading rs = those (λ r. not (eqb (kind r) engine_kind || eqb (kind r) stop_kind)) rs

-- whether testing was stopped
abbrev pub stopped : List Record → Bool
stopped rs = any (λ r. eqb (kind r) stop_kind) rs

-- the plan is the first record's
unfoldable pub plan_number : List Record → ℕ
plan_number rs = plan (get_or rs 0 [])

-- a pollutant as its record declares it
pub record Pollutant : Type 0 where
  pub number : ℕ
  pub limit : ℕ
  pub deviation : ℕ

unfoldable pub pollutant : Record → Pollutant
pollutant r = record { number = number r; limit = limit r; deviation = deviation r }

unfoldable pub declared : List Record → List Pollutant
declared rs = map pollutant (of_kind pollutant_kind rs)

unfoldable pub declares : List Pollutant → (p : ℕ) → Bool
declares ps p = any (λ c. eqb c.number p) ps

-- "A gross emitter is a vehicle with 2x > 3L for some pollutant"
unfoldable pub gross : List Pollutant → Record → Bool
gross ps r = any (λ c. ltb (3 * c.limit) (2 * measurement r c.number)) ps

-- the pollutant numbers, 1 to w
abbrev pub numbers : (w : ℕ) → List ℕ
numbers zero = []
numbers (suc w) = numbers w ++ (suc w ∷ [])
