-- The values of an answer: those of a refusal by the check, and those of a judgement by the engines and the pollutants.
use Rattle.arithmetic.proofs.Basics.{ℕ, zero, suc, ◌+◌, ◌≤◌, ◌<◌, div-le_of_le-mul, arith, ◌≡◌, refl, ◌∙◌, Bool, true, false, ◌||◌, cond, List, [], ◌∷◌, ◌++◌, leb}
use Rattle.arithmetic.proofs.Basics.{eqb, length, take, length-append, length-map, leb-true, and-true, by-test, never}
use Rattle.rules.specs.Tools.{any, all, within}
use Rattle.rules.specs.Sheet.{Record, Pollutant, size, most, records, numbers, engines, run_ins, stopped, plan_number, declared}
use Rattle.rules.specs.Plans.{Plan, plan_of}
use Rattle.rules.specs.Series.{Standing, Series, ongoing, passed, failed, referred, held, has_failed, has_passed, settle_by, settle}
use Rattle.rules.specs.Series.{Before, early, equal_cause, finding_pending, referral, left_open, statistics, before_row, row_by, walk, after}
use Rattle.rules.specs.Series.{pairs, Answer, refusal, judgement, answer, judge_records}
use Rattle.rules.specs.Refusals.{Fault, fault, first, faults, fault_of_lem, Check, accepted, refused, check_from, bad_length_lem, check}
use Rattle.accepted.proofs.Records.{length-records}
use Rattle.accepted.proofs.Faultless.{length-fine}
use Rattle.answers.proofs.Answers.{series_of, engine_in}

-- ---- a refusal: its number is 1 to 12 or 16 to 19, and its record one of n

abbrev pub is_refusal : (number : ℕ) → Bool
is_refusal n = within 1 12 n || within 16 19 n

abbrev pub RefusalIn : (n : ℕ) → Check → Type 0
RefusalIn n accepted = Unit {0}
RefusalIn n (refused number place) = (is_refusal number ≡ true) × (place < n)

-- so it fits a byte
pub refusal-most : (number : ℕ) → is_refusal number ≡ true → (1 ≤ number) × (number ≤ 19)
refusal-most n e =
    by-test (λ t. t || within 16 19 n ≡ true → (1 ≤ n) × (n ≤ 19)) (within 1 12 n)
    (λ h f. let t = and-true (leb 1 n) (leb n 12) h in (leb-true 1 n t.0, omega (arith, leb-true n 12 t.1)))
    (λ h f. let t = and-true (leb 16 n) (leb n 19) f in (omega (arith, leb-true 16 n t.0), leb-true n 19 t.1)) e

-- what holds of every number in a list of faults holds of the first that is present
abbrev pub numbered : (test : ℕ → Bool) → Fault → Bool
numbered test (fault number present) = test number

pub first-such : (test : ℕ → Bool) (fs : List Fault) → all (numbered test) fs ≡ true → eqb (first fs) 0 ≡ false → test (first fs) ≡ true
first-such test [] e o = never o
first-such test (fault k true ∷ fs) e o = (and-true (test k) (all (numbered test) fs) e).0
first-such test (fault k false ∷ fs) e o = first-such test fs (and-true (test k) (all (numbered test) fs) e).1 o

fault-refusal : (w : ℕ) (before : List Record) (r : Record) → eqb (fault_of_lem w before r) 0 ≡ false → is_refusal (fault_of_lem w before r) ≡ true
unfolding fault_of_lem faults
fault-refusal w before r o = first-such is_refusal (faults w before r) refl o

from-range : (w n : ℕ) (before rs : List Record) → length before + length rs ≤ n → RefusalIn n (check_from w before rs)
unfolding check_from
from-range w n before [] h = tt
from-range w n before (r ∷ rs) h =
    by-test (λ t. RefusalIn n (cond t (check_from w (before ++ (r ∷ [])) rs) (refused (fault_of_lem w before r) (length before))))
    (eqb (fault_of_lem w before r) 0)
    (λ e. from-range w n (before ++ (r ∷ [])) rs (rw length-append (omega arith)))
    (λ e. (fault-refusal w before r e, omega arith))

pub check-range : (w : ℕ) (b : List ℕ) → RefusalIn (most w) (check w b)
unfolding check
check-range w b =
    by-test (λ t. RefusalIn (most w) (cond t (refused 1 0) (check_from w [] (records w b)))) (bad_length_lem w (length b))
    (λ e. (refl, omega arith))
    (λ e.
    let l = (length-fine w (length b) e).1.1 in
    let k = div-le_of_le-mul (size w) {m = length b} {n = most w} (omega arith) in
    from-range w (most w) [] (records w b) (rw (length-records w b) (omega arith)))

-- ---- a series that is decided or held at engine n, or goes on; the ground of a fail in it is at most 2

abbrev pub DecidedAt : (n : ℕ) → Series → Type 0
DecidedAt n (ongoing ss) = Unit {0}
DecidedAt n (passed m ss) = m ≡ n
DecidedAt n (failed m grounds ss) = (m ≡ n) × (grounds ≤ 2)
DecidedAt n (referred m ss) = m ≡ n
DecidedAt n (held m ss) = m ≡ n

-- a row that decides, or holds, does so at its own engine
settled_at : (n : ℕ) (ss : List Standing) → DecidedAt n (settle n ss)
unfolding settle
settled_at n ss = cases (any (λ s. has_failed s.decision) ss) (all (λ s. has_passed s.decision) ss)
  where
    cases : (a b : Bool) → DecidedAt n (settle_by a b n ss)
    cases true b = omega arith
    cases false true = refl
    cases false false = tt

module _ (plan : Plan) (vs : List Record) (q : ℕ) where
  row_at : (b : Before) (n : ℕ) (first : List Record) (ss : List Standing) → DecidedAt n (row_by b plan vs q n first ss)
  row_at early n first ss = tt
  row_at equal_cause n first ss = omega arith
  row_at finding_pending n first ss = refl
  row_at referral n first ss = refl
  row_at left_open n first ss = tt
  row_at statistics n first ss = settled_at n _

  module _ (ps : List Pollutant) (es : List Record) where
    -- so a series after n engines is that after m of them, at which it is decided, is held or goes on
    abbrev pub Made : (n : ℕ) → Series → Type 0
    Made n s = (m : ℕ) × (m ≤ n) × DecidedAt m s × (after plan ps vs q es m ≡ s)

    walk-made : (n : ℕ) (s : Series) → after plan ps vs q es n ≡ s → Made n s → Made (suc n) (walk plan ps vs q (suc n) (take (suc n) es) s)
    unfolding after
    walk-made n (ongoing ss) e h = (suc n, omega arith, row_at (before_row plan ps (suc n) (take (suc n) es)) (suc n) (take (suc n) es) ss, rw e refl)
    walk-made n (passed m ss) e h = (h.0, omega (arith, h.1), h.2, h.3)
    walk-made n (failed m grounds ss) e h = (h.0, omega (arith, h.1), h.2, h.3)
    walk-made n (referred m ss) e h = (h.0, omega (arith, h.1), h.2, h.3)
    walk-made n (held m ss) e h = (h.0, omega (arith, h.1), h.2, h.3)

    pub after-made : (n : ℕ) → Made n (after plan ps vs q es n)
    unfolding after
    after-made zero = (0, omega arith, tt, refl)
    after-made (suc n) = walk-made n (after plan ps vs q es n) refl (after-made n)

-- ---- a judgement after n engines, of w pollutants

abbrev pub JudgementIn : (w n : ℕ) → Answer → Type 0
JudgementIn w n (refusal number place) = ⊥
JudgementIn w n (judgement v m grounds pairs) = (v ≤ 4) × (m ≤ n) × (grounds ≤ 5) × (length pairs ≡ w)

length-numbers : (w : ℕ) → length (numbers w) ≡ w
length-numbers zero = refl
length-numbers (suc w) = rw (length-append, length-numbers w) (omega arith)

length_pairs : (w : ℕ) (ss : List Standing) → length (pairs w ss) ≡ w
unfolding pairs
length_pairs w ss = length-map (numbers w) _ ∙ length-numbers w

answer-range : (w : ℕ) (stop : Bool) (n m : ℕ) (s : Series) → m ≤ n → DecidedAt m s → JudgementIn w n (answer w stop n s)
answer-range w stop n m (passed k ss) l h = omega (arith, length_pairs w ss)
answer-range w stop n m (failed k grounds ss) l h = omega (arith, h, length_pairs w ss)
answer-range w stop n m (referred k ss) l h = omega (arith, length_pairs w ss)
answer-range w stop n m (held k ss) l h = omega (arith, length_pairs w ss)
answer-range w true n m (ongoing ss) l h = omega (arith, length_pairs w ss)
answer-range w false n m (ongoing ss) l h = omega (arith, length_pairs w ss)

pub judgement-range : (w q : ℕ) (rs : List Record) → JudgementIn w (length (engines rs)) (judge_records w q rs)
unfolding judge_records
judgement-range w q rs =
    let m = after-made (plan_of (plan_number rs)) (run_ins rs) q (declared rs) (engines rs) (length (engines rs)) in
    answer-range w (stopped rs) (length (engines rs)) m.0 (series_of q rs) m.1 m.2

engine-in : (w n : ℕ) (a : Answer) → JudgementIn w n a → engine_in a ≤ n
engine-in w n (refusal number place) h = absurd h
engine-in w n (judgement v m grounds pairs) h = h.1

-- the engine of a decision is among those tested
pub engine-within : (w q : ℕ) (rs : List Record) → engine_in (judge_records w q rs) ≤ length (engines rs)
engine-within w q rs = engine-in w (length (engines rs)) (judge_records w q rs) (judgement-range w q rs)
