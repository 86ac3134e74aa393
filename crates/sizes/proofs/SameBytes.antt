-- Two records that read the same at every place, past their ends too, where a byte counts as 0: a record and its widened form are such.
-- Every field, every fault and every row is the same.
use Rattle.arithmetic.proofs.Basics.{ℕ, zero, suc, ◌+◌, ◌-◌, ◌*◌, ◌≡◌, refl, sym, ap, ◌∙◌, Bool, not, ◌||◌, List, [], ◌∷◌, ◌++◌, map, ltb, eqb}
use Rattle.arithmetic.proofs.Basics.{length, get_or, take, drop, replicate, any_part, any_same}
use Rattle.arithmetic.proofs.Pairs.{Pairs, none, more, pairs-length, pairs-take, pairs-follow, pairs-those, same_map, same-any}
use Rattle.rules.specs.Tools.{any, those, byte, two, four}
use Rattle.rules.specs.Sheet.{Record, Pollutant, size, numbers, pollutant_kind, engine_kind, stop_kind, run_in_kind, kind, number, plan}
use Rattle.rules.specs.Sheet.{limit, deviation, cause, measurement, volume, speed, date, of_kind, engines, heading, stopped, plan_number, pollutant, declared, gross}
use Rattle.rules.specs.Plans.{Plan, known_deviation_lem, unknown_deviation_lem, attributes, in_service_lem, corrected, plan_of}
use Rattle.rules.specs.Series.{Standing, Series, ongoing, passed, failed, referred, held, Before, early, equal_cause, finding_pending, referral, left_open, statistics, in_service_before}
use Rattle.rules.specs.Series.{before_row, correction, look, row_by, walk, after, answer, judge_records}
use Rattle.rules.specs.Refusals.{bad_date_lem, bad_particulate_lem, bad_number, bad_plan, bad_limit, bad_deviation, bad_value_lem, bad_measurement_lem, bad_cause_lem, nonzero, unused}
use Rattle.rules.specs.Refusals.{faults, fault_of_lem}
use Rattle.rules.specs.Converter.{widened_record}
use Rattle.accepted.proofs.SameKinds.{SameKind, same_some, kind-misplaced, same-faults}

pub record SameBytes (a b : Record) : Type 0 where
  pub at : (i : ℕ) → byte a i ≡ byte b i

-- ---- zero bytes behind a record

byte-zeros : (n i : ℕ) → byte (replicate n 0) i ≡ 0
byte-zeros zero i = refl
byte-zeros (suc n) zero = refl
byte-zeros (suc n) (suc i) = byte-zeros n i

byte-append : (r : Record) (n i : ℕ) → byte r i ≡ byte (r ++ replicate n 0) i
byte-append [] n i = sym (byte-zeros n i)
byte-append (x ∷ r) n zero = refl
byte-append (x ∷ r) n (suc i) = byte-append r n i

pub same-widened : (k : ℕ) (rs : List Record) → Pairs SameBytes rs (map (widened_record k) rs)
same-widened k [] = none
same-widened k (r ∷ rs) = more (record { at = byte-append r (4 * k) }) (same-widened k rs)

-- ---- fields

module _ (a b : Record) (s : SameBytes a b) where
  same-two : (i : ℕ) → two a i ≡ two b i
  same-two i = rw (s.at i, s.at (i + 1)) refl

  same-four : (i : ℕ) → four a i ≡ four b i
  same-four i = rw (s.at i, s.at (i + 1), s.at (i + 2), s.at (i + 3)) refl

  same_kind : kind a ≡ kind b
  unfolding kind
  same_kind = s.at 0

  same_number : number a ≡ number b
  unfolding number
  same_number = s.at 1

  same-plan : plan a ≡ plan b
  unfolding plan
  same-plan = s.at 2

  same-limit : limit a ≡ limit b
  unfolding limit
  same-limit = same-four 4

  same-deviation : deviation a ≡ deviation b
  unfolding deviation
  same-deviation = same-four 8

  same-cause : cause a ≡ cause b
  unfolding cause
  same-cause = same-two 2

  same-measurement : (p : ℕ) → measurement a p ≡ measurement b p
  unfolding measurement
  same-measurement p = same-four (4 * p)

  same-volume : volume a ≡ volume b
  unfolding volume
  same-volume = same-two 2

  same-speed : speed a ≡ speed b
  unfolding speed
  same-speed = same-two 4

  same-date : date a ≡ date b
  unfolding date
  same-date = same-four 8

  same-pollutant : pollutant a ≡ pollutant b
  unfolding pollutant
  same-pollutant = rw (same_number, same-limit, same-deviation) refl

  same-part : (n i : ℕ) → any (λ x. not (eqb x 0)) (take n (drop i a)) ≡ any (λ x. not (eqb x 0)) (take n (drop i b))
  same-part zero i = refl
  same-part (suc n) i =
      rw (any_part (λ x. not (eqb x 0)) 0 refl n i a, any_part (λ x. not (eqb x 0)) 0 refl n i b, s.at i, same-part n (suc i)) refl

  same-nonzero : (i e : ℕ) → nonzero a i e ≡ nonzero b i e
  unfolding nonzero
  same-nonzero i e = same-part (e - i) i

  same-gross : (ps : List Pollutant) → gross ps a ≡ gross ps b
  unfolding gross
  same-gross ps =
      any_same (λ c. ltb (3 * c.limit) (2 * measurement b c.number)) (λ c. ltb (3 * c.limit) (2 * measurement a c.number))
      (λ c. rw (same-measurement c.number) refl) ps

-- ---- lists of records

same_test : (k : ℕ) (a b : Record) → SameBytes a b → eqb (kind a) k ≡ eqb (kind b) k
same_test k a b s = rw (same_kind a b s) refl

same-those : (t : Record → Bool) → ((a b : Record) → SameBytes a b → t a ≡ t b) → {rs ts : List Record} → Pairs SameBytes rs ts
    → Pairs SameBytes (those t rs) (those t ts)
same-those t i r = pairs-follow (λ a b h. h.1) (pairs-those t t i r)

same-of_kind : (k : ℕ) {rs ts : List Record} → Pairs SameBytes rs ts → Pairs SameBytes (of_kind k rs) (of_kind k ts)
unfolding of_kind
same-of_kind k r = same-those (λ a. eqb (kind a) k) (same_test k) r

same-kinds : {rs ts : List Record} → Pairs SameBytes rs ts → Pairs SameKind rs ts
same-kinds r = pairs-follow same_kind r

pub same-heading : {rs ts : List Record} → Pairs SameBytes rs ts → Pairs SameBytes (heading rs) (heading ts)
unfolding heading
same-heading r = same-those (λ a. not (eqb (kind a) engine_kind || eqb (kind a) stop_kind)) (λ a b s. rw (same_kind a b s) refl) r

same-stopped : {rs ts : List Record} → Pairs SameBytes rs ts → stopped rs ≡ stopped ts
same-stopped r = same_some stop_kind (same-kinds r)

same-plan_number : {rs ts : List Record} → Pairs SameBytes rs ts → plan_number rs ≡ plan_number ts
unfolding plan_number
same-plan_number none = refl
same-plan_number (more {x} {y} s r) = same-plan x y s

pub same-declared : {rs ts : List Record} → Pairs SameBytes rs ts → declared rs ≡ declared ts
unfolding declared
same-declared r = same_map pollutant pollutant same-pollutant (same-of_kind pollutant_kind r)

-- ---- faults

module _ (a b : Record) (s : SameBytes a b) where
  same-bad_plan : (before : List Record) → bad_plan before a ≡ bad_plan before b
  unfolding bad_plan
  same-bad_plan [] = rw (same-plan a b s) refl
  same-bad_plan (o ∷ before) = rw (same-plan a b s) refl

  same-bad_measurement : (w : ℕ) (ps : List Pollutant) → bad_measurement_lem w ps a ≡ bad_measurement_lem w ps b
  unfolding bad_measurement_lem
  same-bad_measurement w ps = any_same (bad_value_lem ps b) (bad_value_lem ps a) (λ p. rw (same-measurement a b s p) refl) (numbers w)

  same-unused : (w : ℕ) → unused w a ≡ unused w b
  unfolding unused
  same-unused w =
      rw (
        same_kind a b s,
        same-nonzero a b s 3 4,
        same-nonzero a b s 12 (size w),
        same-nonzero a b s 1 2,
        same-nonzero a b s 1 (size w),
        same-nonzero a b s 6 8,
        same-nonzero a b s 1 4,
      ) refl

  -- after the same records
  same-own : (w : ℕ) (before : List Record) → fault_of_lem w before a ≡ fault_of_lem w before b
  unfolding fault_of_lem faults bad_date_lem bad_particulate_lem bad_number bad_limit bad_deviation bad_cause_lem
  same-own w before =
      rw (
        kind-misplaced before a b (same_kind a b s),
        same-bad_plan before,
        same-bad_measurement w _,
        same-unused w,
        same_kind a b s,
        same_number a b s,
        same-limit a b s,
        same-plan a b s,
        same-deviation a b s,
        same-cause a b s,
        same-gross a b s _,
        same-volume a b s,
        same-speed a b s,
        same-date a b s,
      ) refl

  pub same-fault : (w : ℕ) {rs ts : List Record} → Pairs SameBytes rs ts → fault_of_lem w rs a ≡ fault_of_lem w ts b
  same-fault w {rs} {ts} r = same-faults w (same-kinds r) (same-plan_number r) (same-declared r) a ∙ same-own w ts

-- ---- the series

same-in_service : (ps : List Pollutant) (n : ℕ) {es fs : List Record} → Pairs SameBytes es fs → in_service_before ps n es ≡ in_service_before ps n fs
unfolding in_service_before
same-in_service ps n {es} {fs} r =
    let i : (a b : Record) → SameBytes a b → gross ps a ≡ gross ps b = λ a b s. same-gross a b s ps in
    let g : Pairs SameBytes (those (gross ps) es) (those (gross ps) fs) = same-those (gross ps) i r in
    rw (same_map cause cause same-cause g, pairs-length g, same-any (gross ps) (gross ps) i r) refl

same-before : (plan : Plan) (ps : List Pollutant) (n : ℕ) {es fs : List Record} → Pairs SameBytes es fs → before_row plan ps n es ≡ before_row plan ps n fs
unfolding before_row
same-before known_deviation_lem ps n r = refl
same-before unknown_deviation_lem ps n r = refl
same-before attributes ps n r = refl
same-before in_service_lem ps n r = rw (same-in_service ps n r) refl
same-before corrected ps n r = refl

-- the first of them, a record of no bytes where there is none
same_first : {es fs : List Record} → Pairs SameBytes es fs → SameBytes (get_or es 0 []) (get_or fs 0 [])
same_first none = record { at = λ i. refl }
same_first (more s r) = s

same-correction : {vs us es fs : List Record} → Pairs SameBytes vs us → Pairs SameBytes es fs → (p : ℕ) → correction vs es p ≡ correction us fs p
same-correction none r p = refl
same-correction {es = es} {fs = fs} (more {x} {y} s v) r p =
    rw (same-measurement x y s p, same-measurement (get_or es 0 []) (get_or fs 0 []) (same_first r) p) refl

module _ (plan : Plan) {vs us : List Record} (v : Pairs SameBytes vs us) (q : ℕ) where
  same-look : (n : ℕ) {es fs : List Record} → Pairs SameBytes es fs → (ss : List Standing) → map (look plan vs q n es) ss ≡ map (look plan us q n fs) ss
  unfolding look
  same-look n r [] = refl
  same-look n {es} {fs} r (s ∷ ss) =
      let p : ℕ = s.pollutant.number in
      let x : Record → ℕ = λ e. measurement e p in
      let e : map x es ≡ map x fs = same_map x x (λ a b h. same-measurement a b h p) r in
      rw (e, same-correction v r p, same-look n r ss) refl

  same_row : (b : Before) (n : ℕ) {es fs : List Record} → Pairs SameBytes es fs → (ss : List Standing) → row_by b plan vs q n es ss ≡ row_by b plan us q n fs ss
  same_row early n r ss = refl
  same_row equal_cause n r ss = refl
  same_row finding_pending n r ss = refl
  same_row referral n r ss = refl
  same_row left_open n r ss = refl
  same_row statistics n r ss = rw (same-look n r ss) refl

  module _ (ps : List Pollutant) where
    same-walk : (n : ℕ) {es fs : List Record} → Pairs SameBytes es fs → (s : Series) → walk plan ps vs q n es s ≡ walk plan ps us q n fs s
    same-walk n {es} {fs} r (ongoing ss) = rw (same-before plan ps n r) (same_row (before_row plan ps n fs) n r ss)
    same-walk n r (passed m ss) = refl
    same-walk n r (failed m grounds ss) = refl
    same-walk n r (referred m ss) = refl
    same-walk n r (held m ss) = refl

    same_after : {es fs : List Record} → Pairs SameBytes es fs → (n : ℕ) → after plan ps vs q es n ≡ after plan ps us q fs n
    unfolding after
    same_after r zero = refl
    same_after {es} {fs} r (suc n) = rw (same_after r n) (same-walk (suc n) (pairs-take (suc n) r) (after plan ps us q fs n))

pub same-judgement : (w q : ℕ) {rs ts : List Record} → Pairs SameBytes rs ts → judge_records w q rs ≡ judge_records w q ts
unfolding judge_records
same-judgement w q {rs} {ts} r =
    rw (same-stopped r, same-plan_number r, same-declared r, pairs-length (same-of_kind engine_kind r))
    (ap (answer w (stopped ts) (length (engines ts)))
    (same_after (plan_of (plan_number ts)) (same-of_kind run_in_kind r) q (declared ts) (same-of_kind engine_kind r) (length (engines ts))))
