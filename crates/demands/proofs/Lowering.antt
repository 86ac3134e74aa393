-- Two accepted sheets under plan 1 or 3, alike in all but the measurements, none higher in the second, and on run-in sheets the first
-- engine's the same in both: where the first passes, the second passes no later; where the second fails, the first fails no later.
use Rattle.arithmetic.proofs.Basics.{ℕ, zero, suc, ◌≤◌, arith, ◌≡◌, refl, ◌⊎◌, inl, inr, true, false, List, [], eqb, length, get_or, take, get_or-take, eqb-true, never}
use Rattle.rules.specs.Sheet.{Record, engine_kind, run_in_kind, measures, records, kind, measurement, of_kind, engines, run_ins, stopped, plan_number, declared, declares}
use Rattle.rules.specs.Plans.{plan_of}
use Rattle.rules.specs.Series.{correction, after, Answer, answer, judge_records}
use Rattle.rules.specs.Operations.{judge}
use Rattle.rules.specs.Demands.{Accepted, PassesAt, FailsAt, PassesBy, FailsBy, Alike, NoneHigher, SameZeroHours}
use Rattle.arithmetic.proofs.Pairs.{Pairs, none, more, pairs-length}
use Rattle.accepted.proofs.Faultless.{Clean}
use Rattle.accepted.proofs.Ranges.{InRange, number_in, measurements-in, run-in-values-in}
use Rattle.demands.proofs.Ended.{sheet-sound, judged}
use Rattle.demands.proofs.Rows.{CorrectionLe, Falling, known-falls, attributes-fall}
use Rattle.demands.proofs.Alike.{Same, records-same, of-kind, stopped-same, plan-same, declared_same}
use Rattle.demands.proofs.Lower.{MeasuredLe, LowerAt, passes-by, fails_by_lem}

-- ---- the measurements of the records of a kind that holds some, of engines and of run-in values

measured-lower : {w : ℕ} (k : ℕ) {rs ts : List Record} → measures k ≡ true → (p : ℕ) → 1 ≤ p → p ≤ w
    → Pairs (λ (a b : Record). (eqb (kind a) k ≡ true) × Same w a b) rs ts → InRange p rs → InRange p ts → MeasuredLe p rs ts
measured-lower k m p l h none i j = none
measured-lower k m p l h (more {x} s r) i j =
    more (j.0, s.1.lower (rw (eqb-true (kind x) k s.0) m) p l h, i.1) (measured-lower k m p l h r i.2 j.2)

-- the first of the engines is the first of the first n
first_taken : (es fs : List Record) (p n : ℕ) → measurement (get_or fs 0 []) p ≡ measurement (get_or es 0 []) p
    → measurement (get_or (take n fs) 0 []) p ≡ measurement (get_or (take n es) 0 []) p
first_taken es fs p zero e = refl
first_taken es fs p (suc n) e = rw (get_or-take (suc n) fs 0 [] (omega arith), get_or-take (suc n) es 0 [] (omega arith)) e

-- without run-in values both sheets correct by 1 and 1
correction-lower : {vs us : List Record} (es fs : List Record) (p : ℕ) → MeasuredLe p vs us
    → ((vs ≡ [] → ⊥) → measurement (get_or fs 0 []) p ≡ measurement (get_or es 0 []) p)
    → (n : ℕ) → CorrectionLe (correction us (take n fs) p) (correction vs (take n es) p)
correction-lower es fs p none z n = (refl, (omega arith, omega arith, omega arith))
correction-lower es fs p (more h r) z n = (first_taken es fs p n (z (λ e. let o : true ≡ false = cc in never o)), h)

module _ (w : ℕ) {rs ts : List Record} (same : Pairs (Same w) rs ts) (clean : Clean w [] rs) (clean' : Clean w [] ts)
    (zero_hours : (run_ins rs ≡ [] → ⊥) → (p : ℕ) → 1 ≤ p → p ≤ w
    → measurement (get_or (engines ts) 0 []) p ≡ measurement (get_or (engines rs) 0 []) p) where
  declared-lower : (p : ℕ) → declares (declared rs) p ≡ true → LowerAt (run_ins rs) (run_ins ts) (engines rs) (engines ts) p
  declared-lower p d =
      let n = number_in w rs clean p d in
      let d' : declares (declared ts) p ≡ true = rw (declared_same same) at d in
      let lower_of : (k : ℕ) → measures k ≡ true → InRange p (of_kind k rs) → InRange p (of_kind k ts) → MeasuredLe p (of_kind k rs) (of_kind k ts) =
      λ k m. measured-lower k m p n.0 n.1 (of-kind same k) in
      record {
        measured = lower_of engine_kind refl (measurements-in w rs clean p d) (measurements-in w ts clean' p d');
        correcting = correction-lower (engines rs) (engines ts) p
            (lower_of run_in_kind refl (run-in-values-in w rs clean p d) (run-in-values-in w ts clean' p d')) (λ run. zero_hours run p n.0 n.1);
      }

falling : (n : ℕ) → (n ≡ 1) ⊎ (n ≡ 3) → Falling (plan_of n)
unfolding plan_of
falling n (inl e) = rw e known-falls
falling n (inr e) = rw e attributes-fall

-- ---- the two answers, as those of series of the same pollutants

module _ (w q : ℕ) (R S : List ℕ) (alike : Alike w R S) (lower : NoneHigher w R S) (zero_hours : SameZeroHours w R S)
    (plan : (plan_number (records w R) ≡ 1) ⊎ (plan_number (records w R) ≡ 3)) (first : Accepted w q R) (second : Accepted w q S) (n : ℕ) where
  same : Pairs (Same w) (records w R) (records w S)
  same = records-same w R S alike lower (sheet-sound w q R first).whole

  abbrev answer_with : (vs es : List Record) → Answer
  answer_with vs es =
      let rs = records w R in
      answer w (stopped rs) (length (engines rs)) (after (plan_of (plan_number rs)) (declared rs) vs q es (length (engines rs)))

  judged-first : judge w q R ≡ answer_with (run_ins (records w R)) (engines (records w R))
  unfolding judge_records
  judged-first = judged w q R first

  judged-second : judge w q S ≡ answer_with (run_ins (records w S)) (engines (records w S))
  unfolding judge_records
  judged-second =
      rw (stopped-same same, plan-same same, declared_same same, pairs-length (of-kind same engine_kind)) (judged w q S second)

  lowered : (p : ℕ) → declares (declared (records w R)) p ≡ true
      → LowerAt (run_ins (records w R)) (run_ins (records w S)) (engines (records w R)) (engines (records w S)) p
  lowered = declared-lower w same (sheet-sound w q R first).clean (sheet-sound w q S second).clean zero_hours

  pub sheet-passes : PassesAt w q R n → PassesBy w q S n
  sheet-passes s =
      rw judged-second
      (passes-by w q (falling (plan_number (records w R)) plan) (declared (records w R)) lowered (stopped (records w R))
      (length (engines (records w R))) n (rw judged-first at s))

  pub sheet-fails : FailsAt w q S n → FailsBy w q R n
  sheet-fails s =
      rw judged-first
      (fails_by_lem w q (falling (plan_number (records w R)) plan) (declared (records w R)) lowered (stopped (records w R))
      (length (engines (records w R))) n (rw judged-second at s))
