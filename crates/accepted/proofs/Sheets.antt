-- What an accepted sheet has: records in their places, a plan, and engines to its last row at most.
use Rattle.arithmetic.proofs.Basics.{ℕ, zero, suc, ◌+◌, ◌-◌, ◌*◌, ◌/◌, ◌≤◌, ◌<◌, mul-zero, mul-div-le, mul-le-mul_left, div-le_of_le-mul, arith, ◌≡◌, refl, sym, ap, ◌∙◌, Bool, true, false, cond, List, [], ◌∷◌, ◌++◌}
use Rattle.arithmetic.proofs.Basics.{append_assoc, append-nil, eqb, length, get_or, length-append, length-map, get_or-append, get_or-map, eqb-true}
use Rattle.arithmetic.proofs.Basics.{ne_eqb, not-false, leb-false, by-test}
use Rattle.rules.specs.Sheet.{Record, more_pollutants, size, most, records, pollutant_kind, engine_kind, stop_kind, small_engine_kind, run_in_kind, kind, of_kind, engines, run_ins, pollutant}
use Rattle.rules.specs.Sheet.{declared, plan_number}
use Rattle.rules.specs.Plans.{Plan, known_deviation_lem, unknown_deviation_lem, attributes, in_service_lem, corrected, plan_of, last_row_lem, plan_count, number_of}
use Rattle.rules.specs.Refusals.{misplaced, too_many}
use Rattle.accepted.specs.Sheets.{record_at_lem, pollutants_in, run_ins_in, engines_in, AcceptedSheet}
use Rattle.accepted.proofs.Records.{record-at, whole-records, length-records}
use Rattle.accepted.proofs.Faultless.{Clean, Sound, sound, faultless, of_kind-append}
use Rattle.accepted.proofs.Engines.{layout, heading-parts, counts, engine-at, run-in-last}
use Rattle.accepted.proofs.ByNumber.{InOrder, in_order}
use Rattle.accepted.proofs.Causes.{Caused, causes, plan-append}

-- ---- the first record declares a pollutant

-- "3, first record not kind 1"
first_kind : (w : ℕ) (r : Record) (rs : List Record) → Clean w [] (r ∷ rs) → eqb (kind r) pollutant_kind ≡ true
unfolding misplaced
first_kind w r rs c = not-false (eqb (kind r) pollutant_kind) (faultless w [] r c.0).placed

pub some-declared : (w : ℕ) (rs : List Record) → 1 ≤ length rs → Clean w [] rs → 1 ≤ length (declared rs)
unfolding declared of_kind
some-declared w [] l c = absurd (omega arith)
some-declared w (r ∷ rs) l c = rw (first_kind w r rs c) (omega arith)

-- ---- the numbers of the plans

abbrev pub is_in_service : Plan → Bool
is_in_service known_deviation_lem = false
is_in_service unknown_deviation_lem = false
is_in_service attributes = false
is_in_service in_service_lem = true
is_in_service corrected = false

-- each number that the check lets pass is its plan's, and each plan is its number's
pub number-of-plan : (n : ℕ) → 1 ≤ n → n ≤ plan_count → number_of (plan_of n) ≡ n
unfolding plan_of
number-of-plan zero l u = absurd (omega arith)
number-of-plan (suc zero) l u = refl
number-of-plan (suc (suc zero)) l u = refl
number-of-plan (suc (suc (suc zero))) l u = refl
number-of-plan (suc (suc (suc (suc zero)))) l u = refl
number-of-plan (suc (suc (suc (suc (suc zero))))) l u = refl
number-of-plan (suc (suc (suc (suc (suc (suc n)))))) l u = absurd (omega arith)

pub plan-of-number : (plan : Plan) → plan_of (number_of plan) ≡ plan
unfolding plan_of
plan-of-number known_deviation_lem = refl
plan-of-number unknown_deviation_lem = refl
plan-of-number attributes = refl
plan-of-number in_service_lem = refl
plan-of-number corrected = refl

-- plan 4 is the one in service, whatever the number
pub service-number : (n : ℕ) → is_in_service (plan_of n) ≡ eqb n (number_of in_service_lem)
unfolding plan_of
service-number zero = refl
service-number (suc zero) = refl
service-number (suc (suc zero)) = refl
service-number (suc (suc (suc zero))) = refl
service-number (suc (suc (suc (suc zero)))) = refl
service-number (suc (suc (suc (suc (suc zero))))) = refl
service-number (suc (suc (suc (suc (suc (suc n)))))) =
    let o : (k : ℕ) → k < 6 → eqb (suc (suc (suc (suc (suc (suc n)))))) k ≡ false = λ k h. ne_eqb _ k (λ e. omega arith) in
    rw (o 1 (omega arith), o 2 (omega arith), o 3 (omega arith), o 4 (omega arith), o 5 (omega arith)) refl

-- ---- "10, more engines than the last row"

pub last-most : (plan : Plan) → last_row_lem plan ≤ 32
last-most known_deviation_lem = omega arith
last-most unknown_deviation_lem = omega arith
last-most attributes = omega arith
last-most in_service_lem = omega arith
last-most corrected = omega arith

pub engines-after : (w : ℕ) (before rs : List Record) → Clean w before rs → length (engines before) ≤ last_row_lem (plan_of (plan_number (before ++ rs)))
    → length (engines (before ++ rs)) ≤ last_row_lem (plan_of (plan_number (before ++ rs)))
unfolding too_many of_kind
engines-after w before [] c h = rw append-nil (rw append-nil at h)
engines-after w before (r ∷ rs) c h =
    let f = faultless w before r c.0 in
    let rows = last_row_lem (plan_of (plan_number (before ++ (r ∷ rs)))) in
    let room : eqb (kind r) engine_kind ≡ true → length (engines before) < rows =
    λ e. rw (plan-append before (r ∷ rs) r (rw (eqb-true (kind r) engine_kind e) refl) f.placed) (leb-false _ _ (f.counted e)) in
    let one_more : length (engines before) + length (of_kind engine_kind (r ∷ [])) ≤ rows =
    by-test (λ t. length (engines before) + length (cond t (r ∷ []) []) ≤ rows) (eqb (kind r) engine_kind) (λ e. omega (arith, room e)) (λ e. omega arith) in
    rw append_assoc at (engines-after w (before ++ (r ∷ [])) rs c.1 (rw (append_assoc, of_kind-append engine_kind before (r ∷ []), length-append) one_more))

-- ---- an accepted sheet

-- record k of the whole records of l bytes lies in them
pub record-inside : (w n l k : ℕ) → size w * n ≤ l → k < n → size w * k + size w ≤ l
record-inside w n l k h i = let m : k + 1 ≤ n = omega arith in omega (arith, mul-le-mul_left w m)

pub whole-inside : (w l k : ℕ) → k < l / size w → size w * k + size w ≤ l
whole-inside w l k i = record-inside w (l / size w) l k (mul-div-le l (size w)) i

module _ {w : ℕ} {b : List ℕ} {plan : Plan} {start : ℕ} (s : AcceptedSheet w b plan start) where
  abbrev rs : List Record
  rs = records w b

  abbrev es : List Record
  es = engines_in w b

  is-sound : Sound w b
  is-sound = sound w b s.accepts

  pub clean : Clean w [] rs
  clean = is-sound.clean

  all-bytes : length b ≡ size w * length rs
  all-bytes = rw (length-records w b) (whole-records (size w) (length b) is-sound.whole)

  pub some-record : 1 ≤ length rs
  some-record = cases rs all-bytes
    where
      cases : (rs : List Record) → length b ≡ size w * length rs → 1 ≤ length rs
      cases [] e = absurd (omega (arith, is-sound.some, mul-zero (size w)))
      cases (r ∷ rs) e = omega arith

  pub order : InOrder w 0 (pollutants_in w b)
  unfolding declared of_kind
  order = in_order w [] rs clean

  all-records : length rs ≡ start + (length es + length (of_kind stop_kind rs))
  all-records = rw s.starts (counts w rs clean)

  -- heading and engines lie in the sheet
  pub inside : size w * (start + length es) ≤ length b
  inside = rw all-bytes (mul-le-mul_left (size w) (omega (arith, all-records)))

  pub few : start + length es ≤ most more_pollutants
  few =
      let k = div-le_of_le-mul (size w) {m = length b} {n = most w} (omega (arith, is-sound.longest)) in
      omega (arith, all-records, length-records w b, s.sized)

  -- engine j is record start + j, and pollutant k, which is in the heading, is record k
  pub engine-is : (j : ℕ) → j < length es → get_or es j [] ≡ record_at_lem w b (start + j)
  engine-is j h =
      rw (← s.starts) at (engine-at w rs clean j h) ∙ record-at w b (start + j) (omega (arith, all-records, length-records w b))

  -- the heading's two parts
  abbrev ps : List Record
  ps = of_kind pollutant_kind rs

  abbrev behind : List Record
  behind = of_kind small_engine_kind rs ++ run_ins rs

  pub declared-first : length (pollutants_in w b) ≤ start
  unfolding declared
  declared-first =
      rw (length-map ps pollutant, s.starts, heading-parts w [] rs clean)
      (omega (arith, length-append ps behind))

  pub pollutant-is : (k : ℕ) → k < length (pollutants_in w b) → get_or (pollutants_in w b) k (pollutant []) ≡ pollutant (record_at_lem w b k)
  unfolding declared
  pollutant-is k h =
      let l : k < length ps = rw (length-map ps pollutant) at h in
      let m : k < length (ps ++ behind) = omega (arith, length-append ps behind) in
      let whole = layout w [] rs clean in
      get_or-map pollutant ps k []
      ∙ ap pollutant (sym (ap (λ (xs : List Record). get_or xs k []) (rw (heading-parts w [] rs clean) at whole)
      ∙ get_or-append (ps ++ behind) (of_kind engine_kind rs ++ of_kind stop_kind rs) [] k m
      ∙ get_or-append ps behind [] k l)
      ∙ record-at w b k (omega (arith, declared-first, all-records, length-records w b)))

  -- the first record declares a pollutant, so that the heading has one
  pub headed : 1 ≤ start
  headed = omega (arith, declared-first, some-declared w rs some-record clean)

  -- the run-in values are the record before the first engine's place, if it is of that kind
  pub run-in-is : run_ins_in w b ≡ cond (eqb (kind (record_at_lem w b (start - 1))) run_in_kind) (record_at_lem w b (start - 1) ∷ []) []
  run-in-is =
      let last = record-at w b (start - 1) (omega (arith, headed, all-records, length-records w b)) in
      run-in-last w rs clean (rw s.starts at headed) (record_at_lem w b (start - 1)) (sym (rw (← s.starts) last))

  -- no more engines than rows
  pub rows_fit : length es ≤ last_row_lem plan
  unfolding of_kind
  rows_fit = rw s.planned (engines-after w [] rs clean (omega arith))

  -- in plan 4 the gross emitters are the vehicles with a cause, and in the other plans there is none
  pub caused : Caused (is_in_service plan) (pollutants_in w b) es
  caused = rw (s.planned, service-number (plan_number rs)) (causes w rs clean)
