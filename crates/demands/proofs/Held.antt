-- A held series: it is held at the first row with a vehicle whose finding is pending, and the evidence of its sheet is the whole sheet.
use Rattle.arithmetic.proofs.Basics.{ℕ, zero, suc, ◌-◌, ◌≤◌, ◌<◌, sub-one, arith, ◌≡◌, refl, ◌∙◌, ◌⊎◌, inl, inr, Bool, true, false, ◌||◌, cond, List, [], ◌∷◌, map}
use Rattle.arithmetic.proofs.Basics.{length, take, drop, take-append-drop, ltb, eqb, eqb-true, eqb-false, ltb-true, ltb-false, never, by-test, any_left}
use Rattle.rules.specs.Tools.{any, all, those}
use Rattle.rules.specs.Sheet.{Record, Pollutant, records, cause, pending, is_pending, engines, run_ins, stopped, declared, plan_number}
use Rattle.rules.specs.Plans.{Plan, plan_of}
use Rattle.rules.specs.Series.{Standing, Series, ongoing, passed, failed, referred, held, Before, early, equal_cause, finding_pending, referral, left_open, statistics}
use Rattle.rules.specs.Series.{before_row, has_failed, has_passed, settle_by, settle, row_by, walk, after, Pair, judgement, pairs, answer, judge_records}
use Rattle.rules.specs.Operations.{judge, evidence}
use Rattle.rules.specs.Demands.{Says, Accepted, Decided, Held, Pending}
use Rattle.accepted.proofs.Causes.{has_cause, Caused, causes}
use Rattle.accepted.proofs.Sheets.{is_in_service, service-number}
use Rattle.accepted.proofs.BeforeRows.{caused-cut, pick, repeats_of, pending_of, referral_by, left_by, before-is}
use Rattle.answers.proofs.Answers.{series_of}
use Rattle.demands.proofs.Ended.{Final, sheet-sound, judged}

abbrev pub waits : Record → Bool
waits r = is_pending (cause r)

-- ---- a pending vehicle has a cause

not-waiting : (r : Record) → has_cause r ≡ false → waits r ≡ false
not-waiting r n =
    by-test (λ t. t ≡ false) (waits r) (λ e. let z : true ≡ false = rw (eqb-true (cause r) pending e) at n in never z) (λ e. refl)

waiting-is : (es : List Record) → pending_of es ≡ any waits es
waiting-is [] = refl
waiting-is (v ∷ es) =
    by-test (λ t. any is_pending (map cause (cond t (v ∷ those has_cause es) (those has_cause es))) ≡ waits v || any waits es) (has_cause v)
    (λ h. rw (waiting-is es) refl) (λ h. rw (not-waiting v h, waiting-is es) refl)

-- ---- so what comes before row n tells whether one of its vehicles is pending

abbrev Tells : (n : ℕ) → (waiting : Bool) → Before → Type 0
Tells n t early = n < 3
Tells n t equal_cause = Unit {0}
Tells n t finding_pending = (3 ≤ n) × (t ≡ true)
Tells n t referral = Unit {0}
Tells n t left_open = t ≡ false
Tells n t statistics = t ≡ false

picked-tells : (n : ℕ) (b t c d : Bool) → Tells n t (pick (ltb n 3) b t c d)
picked-tells n b t c d = by-test (λ a. Tells n t (pick a b t c d)) (ltb n 3) (λ e. ltb-true n 3 e) (λ e. cases b t c d (ltb-false n 3 e))
  where
    cases : (b t c d : Bool) → 3 ≤ n → Tells n t (pick false b t c d)
    cases true t c d h = tt
    cases false true c d h = (h, refl)
    cases false false true d h = tt
    cases false false false true h = refl
    cases false false false false h = refl

before-tells : (plan : Plan) (ps : List Pollutant) (n : ℕ) (first : List Record) → Caused (is_in_service plan) ps first
    → Tells n (any waits first) (before_row plan ps n first)
before-tells plan ps n first c =
    rw (before-is ps n first plan c, ← (waiting-is first)) (picked-tells n (repeats_of first) (pending_of first) (referral_by n first) (left_by n first))

-- ---- so a series that goes on has no pending vehicle, and one that is held is held at the first row that has

-- "the first row with a pending vehicle among its engines", rows being walked from 3
pub record FirstPendingRow (es : List Record) (m : ℕ) : Type 0 where
  pub walked : 3 ≤ m
  pub waiting : any waits (take m es) ≡ true
  pub not-before : 3 < m → any waits (take (m - 1) es) ≡ false

abbrev HeldSo : (es : List Record) → (n : ℕ) → Series → Type 0
HeldSo es n (ongoing ss) = 3 ≤ n → any waits (take n es) ≡ false
HeldSo es n (passed m ss) = Unit {0}
HeldSo es n (failed m grounds ss) = Unit {0}
HeldSo es n (referred m ss) = Unit {0}
HeldSo es n (held m ss) = FirstPendingRow es m

module _ (plan : Plan) (ps : List Pollutant) (vs : List Record) (q : ℕ) (es : List Record) (c : Caused (is_in_service plan) ps es) where
  settle-so : (n : ℕ) (ss : List Standing) → any waits (take n es) ≡ false → HeldSo es n (settle n ss)
  unfolding settle
  settle-so n ss e = cases (any (λ s. has_failed s.decision) ss) (all (λ s. has_passed s.decision) ss)
    where
      cases : (f p : Bool) → HeldSo es n (settle_by f p n ss)
      cases true p = tt
      cases false true = tt
      cases false false = λ h. e

  row-so : (n : ℕ) (b : Before) → Tells (suc n) (any waits (take (suc n) es)) b → (3 ≤ n → any waits (take n es) ≡ false) → (ss : List Standing)
      → HeldSo es (suc n) (row_by b plan vs q (suc n) (take (suc n) es) ss)
  row-so n early t h ss = λ l. absurd (omega arith)
  row-so n equal_cause t h ss = tt
  row-so n finding_pending t h ss = record { walked = t.0; waiting = t.1; not-before = λ l. rw sub-one (h (omega arith)) }
  row-so n referral t h ss = tt
  row-so n left_open t h ss = λ l. t
  row-so n statistics t h ss = settle-so (suc n) _ t

  walk-so : (n : ℕ) (s : Series) → HeldSo es n s → HeldSo es (suc n) (walk plan ps vs q (suc n) (take (suc n) es) s)
  walk-so n (ongoing ss) h =
      let first : List Record = take (suc n) es in
      row-so n (before_row plan ps (suc n) first) (before-tells plan ps (suc n) first (caused-cut (is_in_service plan) ps (suc n) es c).0) h ss
  walk-so n (passed m ss) h = tt
  walk-so n (failed m grounds ss) h = tt
  walk-so n (referred m ss) h = tt
  walk-so n (held m ss) h = h

  after-so : (n : ℕ) → HeldSo es n (after plan ps vs q es n)
  unfolding after
  after-so zero = λ l. absurd (omega arith)
  after-so (suc n) = walk-so n (after plan ps vs q es n) (after-so n)

-- ---- the answer

-- an answer with the verdict 4 is that of a held series
held-answer : (w : ℕ) (stop : Bool) (n m : ℕ) (es : List Record) (s : Series) → HeldSo es n s → Says (answer w stop n s) 4 m
    → FirstPendingRow es m × ((ps : List Pair) × (answer w stop n s ≡ judgement 4 m 5 ps))
held-answer w true n m es (ongoing ss) p (grounds, ps, e) = absurd (let z : ◌≡◌ {A = ℕ} 2 4 = cc in omega arith)
held-answer w false n m es (ongoing ss) p (grounds, ps, e) = absurd (let z : ◌≡◌ {A = ℕ} 0 4 = cc in omega arith)
held-answer w stop n m es (passed k ss) p (grounds, ps, e) = absurd (let z : ◌≡◌ {A = ℕ} 1 4 = cc in omega arith)
held-answer w stop n m es (failed k o ss) p (grounds, ps, e) = absurd (let z : ◌≡◌ {A = ℕ} 2 4 = cc in omega arith)
held-answer w stop n m es (referred k ss) p (grounds, ps, e) = absurd (let z : ◌≡◌ {A = ℕ} 3 4 = cc in omega arith)
held-answer w stop n m es (held k ss) p (grounds, ps, e) = let z : k ≡ m = cc in (rw z at p, (pairs w ss, rw z refl))

module _ (w q : ℕ) (b : List ℕ) where
  answered : (h : Held w q b) → FirstPendingRow (engines (records w b)) h.0 × ((ps : List Pair) × (judge w q b ≡ judgement 4 h.0 5 ps))
  unfolding judge_records
  answered h =
      let rs : List Record = records w b in
      let a : Accepted w q b = (4, h.0, h.1) in
      let j = judged w q b a in
      let c : Caused (is_in_service (plan_of (plan_number rs))) (declared rs) (engines rs) =
      rw (service-number (plan_number rs)) (causes w rs (sheet-sound w q b a).clean) in
      let r = held-answer w (stopped rs) (length (engines rs)) h.0 (engines rs) (series_of q rs)
      (after-so (plan_of (plan_number rs)) (declared rs) (run_ins rs) q (engines rs) c (length (engines rs))) (rw j at h.1) in
      (r.0, (r.1.0, j ∙ r.1.1))

  -- the engine of a held sheet is the first row with a pending vehicle
  pub held_first : (h : Held w q b) → FirstPendingRow (engines (records w b)) h.0
  held_first h = (answered h).0

  pub held-pending : Held w q b → Pending w b
  held-pending h =
      let es : List Record = engines (records w b) in
      rw (take-append-drop h.0 es) at (any_left waits (take h.0 es) (drop h.0 es) (held_first h).waiting)

  pub held-evidence : Held w q b → evidence w q b ≡ b
  unfolding evidence
  held-evidence h = rw (answered h).1.1 refl

  -- a verdict that is not another is a decision, or the sheet is held
  pub final-so : Final (judge w q b) → Decided w q b ⊎ Held w q b
  final-so f =
      by-test (λ t. Decided w q b ⊎ Held w q b) (eqb f.0 4)
      (λ e. let z = eqb-true f.0 4 e in inr (f.1, rw z at f.3))
      (λ e. inl (f.0, f.1, f.2, eqb-false f.0 4 e, f.3))
