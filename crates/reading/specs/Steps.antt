-- What stands at a number of a sheet under reading, of records of s bytes, by document 01's "The sheet", whatever the bytes are: no check is taken to have been made.
use Rattle.std.specs.Prelude.{ℕ, ◌+◌, ◌-◌, ◌/◌, cond, List, [], ltb, eqb, length, get_or}
use Rattle.std.specs.Borrow.{Bor}
use Rattle.rules.specs.Sheet.{Record, size, pollutant_kind, engine_kind, stop_kind, small_engine_kind, run_in_kind, kind, number, plan, limit, deviation, cause, measurement, volume, speed, date}
use Rattle.rules.specs.Sizes.{sized, records_sized}
use Rattle.pollutants.specs.declared.Each.{Each}
use Rattle.reading.specs.declared.SheetReader.{SheetReader}
use Rattle.reading.specs.declared.Step.{Step}
use Rattle.reading.specs.declared.Step.TheVariants.{Pollutant, Engine, Stop, SmallEngine, RunIn, Other, End}
use Rattle.reading.specs.declared.Turn.{Turn}

-- "bytes 4-19 four u32 measurements, pollutant 1 first", and 02, F-10, "measurements 5 and 6"
abbrev pub measurements_in : Record → Each ℕ
measurements_in r =
    record { co = measurement r 1; hc = measurement r 2; nox = measurement r 3; pm = measurement r 4; fifth = measurement r 5; sixth = measurement r 6 }

-- "Byte 0 is the kind". Of a pollutant "byte 1 pollutant number ..; byte 2 plan ..; bytes 4-7 limit L; bytes 8-11 deviation t", of an engine "bytes 2-3 cause" and the measurements; of kind 5, by 02, F-1, "bytes 2-3 swept volume per cylinder in cm³, bytes 4-5 rated speed per minute, bytes 8-11 test date"; of kind 6, by F-2, values "laid out as measurements"
unfoldable pub step_of : Record → Step
step_of r =
    cond (eqb (kind r) pollutant_kind) (Pollutant (number r) (plan r) (limit r) (deviation r))
    (cond (eqb (kind r) engine_kind) (Engine (cause r) (measurements_in r))
    (cond (eqb (kind r) stop_kind) Stop
    (cond (eqb (kind r) small_engine_kind) (SmallEngine (volume r) (speed r) (date r))
    (cond (eqb (kind r) run_in_kind) (RunIn (measurements_in r)) (Other (kind r))))))

-- how many whole records so many bytes are
unfoldable pub whole_records_lem : (s bytes : ℕ) → ℕ
whole_records_lem s n = sized s 0 (λ w. n / size w)

-- record k of the whole records of the bytes b, "counted from 0"
unfoldable pub step_at_lem : (s : ℕ) (b : List ℕ) (k : ℕ) → Step
step_at_lem s b k = cond (ltb k (length (records_sized s b))) (step_of (get_or (records_sized s b) k [])) End

-- the whole records from record k on
unfoldable pub left_at_lem : (s : ℕ) (b : List ℕ) (k : ℕ) → ℕ
left_at_lem s b k = length (records_sized s b) - k

-- the number after k: no number comes after the end's
unfoldable pub next_at : (s : ℕ) (b : List ℕ) (k : ℕ) → ℕ
next_at s b k = cond (ltb k (length (records_sized s b))) (k + 1) k

-- "the lent bytes and the number of the next record", and the bytes of a record
abbrev pub reader : (s : ℕ) → Bor (List ℕ) → ℕ → SheetReader
reader s bytes k = record { size = s; bytes = bytes; next = k }

-- behind the record that a reader stands at
abbrev pub advanced : SheetReader → SheetReader
advanced r = record { size = r.size; bytes = r.bytes; next = next_at r.size r.bytes.now r.next }

-- one turn of a walk: what stands at a number, the number after it, and the whole records from it on
abbrev pub turn_at_lem : (s : ℕ) (b : List ℕ) (k : ℕ) → Turn
turn_at_lem s b k = record { step = step_at_lem s b k; next = next_at s b k; left = left_at_lem s b k }
