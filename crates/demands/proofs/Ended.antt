-- A series that has ended, decided or held, stays as it is, so an accepted sheet once decided or held keeps its answers; and with as many
-- engines as its plan's last row it has ended.
use Rattle.arithmetic.proofs.Basics.{ℕ, zero, suc, ◌+◌, ◌-◌, ◌≤◌, zero-add, suc-add, add_comm, le_refl, arith, ◌≡◌, refl, sym, ap, ◌∙◌, Bool, true, false, not}
use Rattle.arithmetic.proofs.Basics.{cond, List, [], ◌∷◌, ◌++◌, map, append-nil, leb, eqb, length, take, drop, length-append, take-append-drop, take-append-le}
use Rattle.arithmetic.proofs.Basics.{eq-eqb, eqb-true, never, by-test, not-or, any-implies}
use Rattle.rules.specs.Tools.{any, all, those}
use Rattle.rules.specs.Sheet.{Record, Pollutant, engine_kind, run_in_kind, records, kind, cause, is_pending, gross, measurement, engines, run_ins, stopped, plan_number, declared}
use Rattle.rules.specs.Plans.{Plan, known_deviation_lem, unknown_deviation_lem, attributes, in_service_lem, corrected, plan_of, last_row_lem, pass, fail, decide, row_passes, row}
use Rattle.rules.specs.Series.{Decision, is_open, passed_at, failed_at, Standing, Series, ongoing, passed, failed, referred, held}
use Rattle.rules.specs.Series.{equal_cause, finding_pending, referral, statistics, repeats, known, in_service_before, before_row, looked_at, correction, look, has_failed, has_passed}
use Rattle.rules.specs.Series.{settle_by, settle, row_by, walk, after, pairs, Answer, answer, judge_records}
use Rattle.rules.specs.Refusals.{accepted, check}
use Rattle.rules.specs.Operations.{judge}
use Rattle.rules.specs.Demands.{Says, Accepted, Begins, engines_of, plan_of_sheet}
use Rattle.accepted.proofs.Records.{records-append}
use Rattle.accepted.proofs.Faultless.{Sound, sound, Clean, clean-append, is_other, is_measured, of_kind-append, of_kind-none, no-pollutants, no-run-ins, nothing-after}
use Rattle.accepted.proofs.Causes.{declared-append}
use Rattle.answers.proofs.Answers.{series_of, judge-accepted, judgement-accepted}

-- ---- an accepted sheet is sound, and its answer is the answer for its records

module _ (w q : ℕ) (b : List ℕ) (a : Accepted w q b) where
  checked : check w b ≡ accepted
  checked = judgement-accepted w q b a.2.2

  pub sheet-sound : Sound w b
  sheet-sound = sound w b checked

  pub judged : judge w q b ≡ judge_records w q (records w b)
  judged = judge-accepted w q b checked

-- ---- a series that goes on no more: rows change nothing, nor do a stop and the number of engines, and the verdict is not another

abbrev pub Final : Answer → Type 0
Final a = (v : ℕ) × (n : ℕ) × (v ≡ 0 → ⊥) × Says a v n

pub data Ended : Series → Type 0 where
  passed-ended : (m : ℕ) (ss : List Standing) → Ended (passed m ss)
  failed-ended : (m grounds : ℕ) (ss : List Standing) → Ended (failed m grounds ss)
  referred-ended : (m : ℕ) (ss : List Standing) → Ended (referred m ss)
  held-ended : (m : ℕ) (ss : List Standing) → Ended (held m ss)

ended-stays : {s : Series} (plan : Plan) (ps : List Pollutant) (vs : List Record) (q n : ℕ) (first : List Record) → Ended s
    → walk plan ps vs q n first s ≡ s
ended-stays plan ps vs q n first (passed-ended m ss) = refl
ended-stays plan ps vs q n first (failed-ended m grounds ss) = refl
ended-stays plan ps vs q n first (referred-ended m ss) = refl
ended-stays plan ps vs q n first (held-ended m ss) = refl

ended-answers : {s : Series} (w : ℕ) (stop stop' : Bool) (n n' : ℕ) → Ended s → answer w stop n s ≡ answer w stop' n' s
ended-answers w stop stop' n n' (passed-ended m ss) = refl
ended-answers w stop stop' n n' (failed-ended m grounds ss) = refl
ended-answers w stop stop' n n' (referred-ended m ss) = refl
ended-answers w stop stop' n n' (held-ended m ss) = refl

ended-final : {s : Series} (w : ℕ) (stop : Bool) (n : ℕ) → Ended s → Final (answer w stop n s)
ended-final w stop n (passed-ended m ss) = (1, m, λ z. omega arith, (1, pairs w ss, refl))
ended-final w stop n (failed-ended m grounds ss) = (2, m, λ z. omega arith, (grounds, pairs w ss, refl))
ended-final w stop n (referred-ended m ss) = (3, m, λ z. omega arith, (4, pairs w ss, refl))
ended-final w stop n (held-ended m ss) = (4, m, λ z. omega arith, (5, pairs w ss, refl))

-- where testing was not stopped, a series whose verdict is not another has ended
final-ended : (w n : ℕ) (s : Series) → Final (answer w false n s) → Ended s
final-ended w n (ongoing ss) d = let e = d.3.2 in let z : d.0 ≡ 0 = cc in absurd (d.2 z)
final-ended w n (passed m ss) d = passed-ended m ss
final-ended w n (failed m grounds ss) d = failed-ended m grounds ss
final-ended w n (referred m ss) d = referred-ended m ss
final-ended w n (held m ss) d = held-ended m ss

module _ (plan : Plan) (ps : List Pollutant) (vs : List Record) (q : ℕ) where
  pub after-ended : (es : List Record) (k n : ℕ) → Ended (after plan ps vs q es n) → after plan ps vs q es (k + n) ≡ after plan ps vs q es n
  unfolding after
  after-ended es zero n e = rw zero-add refl
  after-ended es (suc k) n e = rw (suc-add, after-ended es k n e) (ended-stays plan ps vs q (suc (k + n)) (take (suc (k + n)) es) e)

  -- the engines that follow are not looked at before their row
  after_first : (es fs : List Record) (n : ℕ) → n ≤ length es → after plan ps vs q (es ++ fs) n ≡ after plan ps vs q es n
  unfolding after
  after_first es fs zero h = refl
  after_first es fs (suc n) h = rw (take-append-le (suc n) es fs, after_first es fs n (omega arith)) refl

  after-longer : (es fs : List Record) → Ended (after plan ps vs q es (length es))
      → after plan ps vs q (es ++ fs) (length (es ++ fs)) ≡ after plan ps vs q es (length es)
  after-longer es fs e =
      let f = after_first es fs (length es) (le_refl (length es)) in
      rw (length-append, add_comm (length es) (length fs), after-ended (es ++ fs) (length fs) (length es) (rw f e)) f

-- ---- records: where the series has ended there is an engine, so neither pollutants nor run-in values follow

abbrev is_engine : Record → Bool
is_engine r = eqb (kind r) engine_kind

has-engine : (q : ℕ) (rs : List Record) → Ended (series_of q rs) → any is_engine rs ≡ true
unfolding after
has-engine q rs e =
    by-test (λ t. t ≡ true) (any is_engine rs) (λ o. refl)
    (λ o.
    let d = ended-final 0 false 0 (rw (of_kind-none engine_kind rs o) at e) in
    let s = d.3.2 in
    let z : d.0 ≡ 0 = cc in
    absurd (d.2 z))

plan-append : (rs ts : List Record) → any is_other rs ≡ true → plan_number (rs ++ ts) ≡ plan_number rs
unfolding plan_number
plan-append [] ts o = let z : true ≡ false = cc in never z
plan-append (r ∷ rs) ts o = refl

run-ins-append : (rs ts : List Record) → run_ins ts ≡ [] → run_ins (rs ++ ts) ≡ run_ins rs
run-ins-append rs ts e = rw (of_kind-append run_in_kind rs ts, e) (append-nil (run_ins rs))

module _ (w q : ℕ) (rs ts : List Record) (c : Clean w rs ts) where
  series-kept : Ended (series_of q rs) → series_of q (rs ++ ts) ≡ series_of q rs
  series-kept e =
      let h = has-engine q rs e in
      let o = any-implies is_engine is_other (λ r i. rw (eqb-true (kind r) engine_kind i) refl) rs h in
      let m = any-implies is_engine is_measured (λ r i. rw i refl) rs h in
      let ps = declared-append rs ts (no-pollutants w rs ts o c) in
      let vs = run-ins-append rs ts (no-run-ins w rs ts m c) in
      rw (plan-append rs ts o, ps, vs, of_kind-append engine_kind rs ts)
      (after-longer (plan_of (plan_number rs)) (declared rs) (run_ins rs) q (engines rs) (engines ts) e)

  records-kept : Final (judge_records w q rs) → judge_records w q (rs ++ ts) ≡ judge_records w q rs
  unfolding judge_records
  records-kept d =
      by-test (λ t. judge_records w q (rs ++ ts) ≡ judge_records w q rs) (stopped rs)
      (λ s. rw (nothing-after w rs ts s c, append-nil) refl)
      (λ s.
      let e = final-ended w (length (engines rs)) (series_of q rs) (rw s at d) in
      rw (series-kept e) (ended-answers w (stopped (rs ++ ts)) (stopped rs) (length (engines (rs ++ ts))) (length (engines rs)) e))

pub sheet-kept : (w q : ℕ) (R S : List ℕ) → Begins S R → Final (judge w q R) → Accepted w q S → judge w q S ≡ judge w q R
sheet-kept w q R S b d a =
    let a' : Accepted w q R = (d.0, d.1, d.3) in
    let ts : List Record = records w (drop (length R) S) in
    let s : S ≡ R ++ drop (length R) S = sym (take-append-drop (length R) S) ∙ ap (λ (x : List ℕ). x ++ drop (length R) S) b in
    let r : records w S ≡ records w R ++ ts = ap (records w) s ∙ records-append w R (drop (length R) S) (sheet-sound w q R a').whole in
    let c : Clean w [] (records w R ++ ts) = rw r at (sheet-sound w q S a).clean in
    rw (judged w q S a, judged w q R a', r)
    (records-kept w q (records w R) ts (clean-append w [] (records w R) ts c).1 (rw (judged w q R a') at d))

-- ---- "In the last row, what doesn't pass fails.": each pollutant has passed or failed there

module _ (plan : Plan) (vs : List Record) (q : ℕ) (first : List Record) where
  abbrev looked : Standing → Decision
  looked s = (look plan vs q (last_row_lem plan) first s).decision

  closed : (s : Standing) → has_passed (looked s) ≡ not (has_failed (looked s))
  unfolding look row decide
  closed s =
      let p = s.pollutant in
      let c = correction vs first p.number in
      rw (eq-eqb (last_row_lem plan) (last_row_lem plan) refl)
      (cases (row_passes plan q (last_row_lem plan) p.limit p.deviation c (map (λ r. measurement r p.number) first)) s.decision)
    where
      by : Bool → Decision → Decision
      by passes d = looked_at (last_row_lem plan) (cond passes pass fail) d

      cases : (passes : Bool) (d : Decision) → has_passed (by passes d) ≡ not (has_failed (by passes d))
      cases true is_open = refl
      cases false is_open = refl
      cases passes (passed_at m) = refl
      cases passes (failed_at m) = refl

  all_closed : (ss : List Standing) → all (λ s. has_passed s.decision) (map (look plan vs q (last_row_lem plan) first) ss)
      ≡ not (any (λ s. has_failed s.decision) (map (look plan vs q (last_row_lem plan) first) ss))
  all_closed [] = refl
  all_closed (s ∷ ss) = rw (closed s, all_closed ss) (sym (not-or (has_failed (looked s)) _))

  settled : (ss : List Standing) → Ended (settle (last_row_lem plan) (map (look plan vs q (last_row_lem plan) first) ss))
  unfolding settle
  settled ss =
      rw (all_closed ss)
      (by-test (λ t. Ended (settle_by t (not t) (last_row_lem plan) (map (look plan vs q (last_row_lem plan) first) ss)))
      (any (λ s. has_failed s.decision) (map (look plan vs q (last_row_lem plan) first) ss)) (λ f. failed-ended _ 1 _) (λ f. passed-ended _ _))

-- plan 4's last row is not left open
row-ended : (plan : Plan) (ps : List Pollutant) (vs : List Record) (q : ℕ) (first : List Record) (ss : List Standing)
    → Ended (row_by (before_row plan ps (last_row_lem plan) first) plan vs q (last_row_lem plan) first ss)
unfolding before_row in_service_before
row-ended known_deviation_lem ps vs q first ss = settled known_deviation_lem vs q first ss
row-ended unknown_deviation_lem ps vs q first ss = settled unknown_deviation_lem vs q first ss
row-ended attributes ps vs q first ss = settled attributes vs q first ss
row-ended in_service_lem ps vs q first ss =
    let emitters : List Record = those (gross ps) first in
    cases (repeats (known (map cause emitters))) (any is_pending (map cause emitters)) (leb 2 (length emitters))
  where
    cases : (a b c : Bool) → Ended (row_by (cond a equal_cause (cond b finding_pending (cond c referral statistics))) in_service_lem vs q (last_row_lem in_service_lem) first ss)
    cases true b c = failed-ended (last_row_lem in_service_lem) 2 ss
    cases false true c = held-ended (last_row_lem in_service_lem) ss
    cases false false true = referred-ended (last_row_lem in_service_lem) ss
    cases false false false = settled in_service_lem vs q first ss
row-ended corrected ps vs q first ss = settled corrected vs q first ss

walk-last : (plan : Plan) (ps : List Pollutant) (vs : List Record) (q : ℕ) (first : List Record) (s : Series)
    → Ended (walk plan ps vs q (last_row_lem plan) first s)
walk-last plan ps vs q first (ongoing ss) = row-ended plan ps vs q first ss
walk-last plan ps vs q first (passed m ss) = passed-ended m ss
walk-last plan ps vs q first (failed m grounds ss) = failed-ended m grounds ss
walk-last plan ps vs q first (referred m ss) = referred-ended m ss
walk-last plan ps vs q first (held m ss) = held-ended m ss

after_last : (plan : Plan) (ps : List Pollutant) (vs : List Record) (q : ℕ) (es : List Record) → Ended (after plan ps vs q es (last_row_lem plan))
unfolding after
after_last known_deviation_lem ps vs q es = walk-last known_deviation_lem ps vs q _ (after known_deviation_lem ps vs q es (last_row_lem known_deviation_lem - 1))
after_last unknown_deviation_lem ps vs q es = walk-last unknown_deviation_lem ps vs q _ (after unknown_deviation_lem ps vs q es (last_row_lem unknown_deviation_lem - 1))
after_last attributes ps vs q es = walk-last attributes ps vs q _ (after attributes ps vs q es (last_row_lem attributes - 1))
after_last in_service_lem ps vs q es = walk-last in_service_lem ps vs q _ (after in_service_lem ps vs q es (last_row_lem in_service_lem - 1))
after_last corrected ps vs q es = walk-last corrected ps vs q _ (after corrected ps vs q es (last_row_lem corrected - 1))

pub sheet-ends : (w q : ℕ) (b : List ℕ) → Accepted w q b → engines_of w b ≡ last_row_lem (plan_of_sheet w b) → Final (judge w q b)
unfolding judge_records
sheet-ends w q b a h =
    let rs : List Record = records w b in
    let e : Ended (series_of q rs) = rw h (after_last _ _ _ q (engines rs)) in
    rw (judged w q b a) (ended-final w (stopped rs) (length (engines rs)) e)
