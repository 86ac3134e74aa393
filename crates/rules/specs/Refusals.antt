-- Document 01, "What each operation turns down": refusals 1 to 12 of a sheet, and document 02's 16 to 19, in their order.
use Rattle.std.specs.Prelude.{ℕ, ◌-◌, ◌*◌, ◌%◌, Bool, true, false, not, ◌&&◌, ◌||◌, cond, List, [], ◌∷◌, ◌++◌, leb, ltb, eqb, length, take, drop}
use Rattle.rules.specs.Tools.{any, within}
use Rattle.rules.specs.Logarithm.{greatest}
use Rattle.rules.specs.Sheet.{Record, Pollutant, size, most, records, numbers, pollutant_kind, engine_kind, stop_kind, small_engine_kind, run_in_kind, measures, kind, number, plan, limit, deviation, cause, is_pending, measurement, volume, speed, date, engines, stopped, plan_number, declared, declares, gross}
use Rattle.rules.specs.Calendar.{is_day_lem}
use Rattle.rules.specs.Plans.{known_deviation_lem, in_service_lem, plan_count, number_of, plan_of, last_row_lem}

-- ---- the faults of a record r that stands after the faultless records `before`

-- "2, kind not 1 to 3"; 02, F-1: "Add record kind 5"; F-2: "Record kind 6"
abbrev pub is_kind : (kind : ℕ) → Bool
is_kind k = within pollutant_kind stop_kind k || within small_engine_kind run_in_kind k

-- "3, first record not kind 1, kind 1 after another kind, or anything after kind 3"
unfoldable pub misplaced : (before : List Record) → Record → Bool
misplaced [] r = not (eqb (kind r) pollutant_kind)
misplaced (a ∷ before) r = eqb (kind r) pollutant_kind && any (λ b. not (eqb (kind b) pollutant_kind)) (a ∷ before) || stopped (a ∷ before)

-- the kind of the last record, 0 where there is none
abbrev pub last_kind : List Record → ℕ
last_kind [] = 0
last_kind (r ∷ []) = kind r
last_kind (r ∷ o ∷ rs) = last_kind (o ∷ rs)

-- 02, F-1: "allowed once, straight after the pollutant records"; "16, a second kind 5, one elsewhere or in plan 4"
unfoldable pub bad_small_engine : (before : List Record) → Bool
bad_small_engine before =
    any (λ b. eqb (kind b) small_engine_kind) before
    || not (eqb (last_kind before) pollutant_kind)
    || eqb (plan_number before) (number_of in_service_lem)

-- 02, F-1: "17, date not in the Gregorian calendar of years 1 to 9999"
unfoldable pub bad_date_lem : Record → Bool
bad_date_lem r = not (is_day_lem (date r))

-- 02, F-1: "Under 700 cm³ and above 3000 per minute, the particulate limit of production is 250 through 19980930 and 150 after ..; every
-- other engine has 150."
unfoldable pub particulate_limit_lem : (volume speed date : ℕ) → ℕ
particulate_limit_lem v n d = cond (ltb v 700 && ltb 3000 n && leb d 19980930) 250 150

-- "pollutant number 1 to 4 (carbon monoxide, hydrocarbons, nitrogen oxides, particulates)"
abbrev pub particulates : ℕ
particulates = 4

-- 02, F-1: "18, .. a declared particulate limit not the rule's": nothing is asked where none is declared
unfoldable pub bad_particulate_lem : List Pollutant → Record → Bool
bad_particulate_lem ps r =
    any (λ c. eqb c.number particulates && not (eqb c.limit (particulate_limit_lem (volume r) (speed r) (date r)))) ps

-- 02, F-2: "19, a second kind 6, one after an engine or in plan 4"
unfoldable pub bad_run_in : (before : List Record) → Bool
bad_run_in before =
    any (λ b. eqb (kind b) run_in_kind) before
    || any (λ b. eqb (kind b) engine_kind) before
    || eqb (plan_number before) (number_of in_service_lem)

-- the number of the last declared pollutant, 0 where there is none
abbrev pub newest : List Pollutant → ℕ
newest [] = 0
newest (p ∷ []) = p.number
newest (p ∷ o ∷ ps) = newest (o ∷ ps)

-- "4, pollutant number not 1 to 4 or not above the one before"
unfoldable pub bad_number : (w : ℕ) → (before : List Record) → Record → Bool
bad_number w before r = not (within 1 w (number r)) || leb (number r) (newest (declared before))

-- "5, plan not 1 to 4 or unlike the first"; 02, F-6: "Refusal 5 admits plan 5."
unfoldable pub bad_plan : (before : List Record) → Record → Bool
bad_plan [] r = not (within 1 plan_count (plan r))
bad_plan (a ∷ before) r = not (within 1 plan_count (plan r)) || not (eqb (plan r) (plan_number (a ∷ before)))

-- "6, limit out of range": 1 to 9,999,999
unfoldable pub bad_limit : Record → Bool
bad_limit r = not (within 1 greatest (limit r))

-- "7, deviation": "1 to 4,000,000 in plan 1, zero otherwise"
abbrev pub greatest_deviation : ℕ
greatest_deviation = 4000000

unfoldable pub bad_deviation : Record → Bool
bad_deviation r = cond (eqb (plan r) (number_of known_deviation_lem)) (not (within 1 greatest_deviation (deviation r))) (not (eqb (deviation r) 0))

-- "8, measurement, also one not zero of an undeclared pollutant"; 02, F-2: "refusals 8 and 12 read it as they read an engine"
abbrev pub bad_value_lem : List Pollutant → Record → (p : ℕ) → Bool
bad_value_lem ps r p = cond (declares ps p) (not (within 1 greatest (measurement r p))) (not (eqb (measurement r p) 0))

unfoldable pub bad_measurement_lem : (w : ℕ) → List Pollutant → Record → Bool
bad_measurement_lem w ps r = any (bad_value_lem ps r) (numbers w)

-- "its cause is 1 to 65,534"
abbrev pub greatest_cause : ℕ
greatest_cause = 65534

-- "9, cause": "In plan 4 [a gross emitter's] cause is 1 to 65,534, any other vehicle's is 0; in plans 1 to 3 cause is 0."; and in plan 5
-- it is 0, which is "otherwise as plan 2"; 02, F-5: "Cause 65,535 now marks a gross emitter whose finding is pending, and refusal 9 admits
-- it there."
unfoldable pub bad_cause_lem : (plan_number : ℕ) → List Pollutant → Record → Bool
bad_cause_lem n ps r =
    cond (eqb n (number_of in_service_lem) && gross ps r) (not (within 1 greatest_cause (cause r) || is_pending (cause r))) (not (eqb (cause r) 0))

-- "10, more engines than the last row"
unfoldable pub too_many : (before : List Record) → Bool
too_many before = leb (last_row_lem (plan_of (plan_number before))) (length (engines before))

-- some byte from a up to and without e is not zero
unfoldable pub nonzero : Record → (a e : ℕ) → Bool
nonzero r a e = any (λ x. not (eqb x 0)) (take (e - a) (drop a r))

-- "12, another byte that must be zero", of each kind; 02, F-2: "bytes 1-3 are zero"
unfoldable pub unused : (w : ℕ) → Record → Bool
unused w r =
    eqb (kind r) pollutant_kind && (nonzero r 3 4 || nonzero r 12 (size w))
    || eqb (kind r) engine_kind && nonzero r 1 2
    || eqb (kind r) stop_kind && nonzero r 1 (size w)
    || eqb (kind r) small_engine_kind && (nonzero r 1 2 || nonzero r 6 8 || nonzero r 12 (size w))
    || eqb (kind r) run_in_kind && nonzero r 1 4

-- a refusal's number, and whether the record has that fault
pub data Fault : Type 0 where
  fault : (number : ℕ) → (present : Bool) → Fault

-- "in it the lowest of": the list is in the order of the refusals, and the first that is present counts; 0 where none is. The order is
-- the list's and not that of the numbers: 02, F-1, has 16 "after 3", 17 "after 16", 18 "after 17"; F-2 has 19 "after 18"
abbrev pub first : List Fault → ℕ
first [] = 0
first (fault k true ∷ fs) = k
first (fault k false ∷ fs) = first fs

unfoldable pub faults : (w : ℕ) → (before : List Record) → Record → List Fault
faults w before r =
    fault 2 (not (is_kind (kind r)))
    ∷ fault 3 (misplaced before r)
    ∷ fault 16 (eqb (kind r) small_engine_kind && bad_small_engine before)
    ∷ fault 17 (eqb (kind r) small_engine_kind && bad_date_lem r)
    ∷ fault 18 (eqb (kind r) small_engine_kind && bad_particulate_lem (declared before) r)
    ∷ fault 19 (eqb (kind r) run_in_kind && bad_run_in before)
    ∷ fault 4 (eqb (kind r) pollutant_kind && bad_number w before r)
    ∷ fault 5 (eqb (kind r) pollutant_kind && bad_plan before r)
    ∷ fault 6 (eqb (kind r) pollutant_kind && bad_limit r)
    ∷ fault 7 (eqb (kind r) pollutant_kind && bad_deviation r)
    ∷ fault 8 (measures (kind r) && bad_measurement_lem w (declared before) r)
    ∷ fault 9 (eqb (kind r) engine_kind && bad_cause_lem (plan_number before) (declared before) r)
    ∷ fault 10 (eqb (kind r) engine_kind && too_many before)
    ∷ fault 11 (eqb (kind r) stop_kind && eqb (plan_number before) (number_of in_service_lem))
    ∷ fault 12 (unused w r)
    ∷ []

-- the refusal number of the record r after the records `before`, 0 where it has no fault
unfoldable pub fault_of_lem : (w : ℕ) → (before : List Record) → Record → ℕ
fault_of_lem w before r = first (faults w before r)

-- ---- the check of a sheet

pub data Check : Type 0 where
  accepted : Check
  refused : (number place : ℕ) → Check

-- "Then the first faulty record", "counted from 0"; the records `before` have no fault
unfoldable pub check_from : (w : ℕ) → (before rs : List Record) → Check
check_from w before [] = accepted
check_from w before (r ∷ rs) =
    cond (eqb (fault_of_lem w before r) 0) (check_from w (before ++ (r ∷ [])) rs) (refused (fault_of_lem w before r) (length before))

-- "1, no bytes, a length not a multiple of 20, or over 740 bytes", which 02, F-1, makes 760, "A sheet may hold 38 records.", and F-2 makes
-- 780, "The record limit rises by one."
unfoldable pub bad_length_lem : (w bytes : ℕ) → Bool
bad_length_lem w n = eqb n 0 || not (eqb (n % size w) 0) || ltb (most w * size w) n

-- "for 1, record 0"
unfoldable pub check : (w : ℕ) → List ℕ → Check
check w b = cond (bad_length_lem w (length b)) (refused 1 0) (check_from w [] (records w b))
