-- Judging refuses what the check refuses, with its number and record, and judges the records of what it accepts.
use Rattle.arithmetic.proofs.Basics.{ℕ, ◌≡◌, refl, sym, ap, ◌∙◌, Bool, true, false, List, length, never}
use Rattle.rules.specs.Sheet.{Record, records, engines, run_ins, stopped, plan_number, declared}
use Rattle.rules.specs.Plans.{plan_of}
use Rattle.rules.specs.Series.{Series, ongoing, passed, failed, referred, held, after, Pair, Answer, refusal, judgement}
use Rattle.rules.specs.Series.{answer, judge_records}
use Rattle.rules.specs.Refusals.{Check, accepted, refused, check}
use Rattle.rules.specs.Operations.{judge_by, judge}
use Rattle.rules.specs.Demands.{Says, Accepted}

-- the series of a sheet's records, after all of its engines
abbrev pub series_of : (q : ℕ) → List Record → Series
series_of q rs = after (plan_of (plan_number rs)) (declared rs) (run_ins rs) q (engines rs) (length (engines rs))

-- what an answer says of the check
abbrev pub check_in : Answer → Check
check_in (refusal number place) = refused number place
check_in (judgement verdict engine grounds pairs) = accepted

-- its engine, 0 where it is a refusal
abbrev pub engine_in : Answer → ℕ
engine_in (refusal number place) = 0
engine_in (judgement verdict engine grounds pairs) = engine

answered : (w : ℕ) (stop : Bool) (n : ℕ) (s : Series) → check_in (answer w stop n s) ≡ accepted
answered w stop n (passed m ss) = refl
answered w stop n (failed m grounds ss) = refl
answered w stop n (referred m ss) = refl
answered w stop n (held m ss) = refl
answered w true n (ongoing ss) = refl
answered w false n (ongoing ss) = refl

by-check : (w q : ℕ) (c : Check) (rs : List Record) → check_in (judge_by w q c rs) ≡ c
unfolding judge_records
by-check w q accepted rs = answered w (stopped rs) (length (engines rs)) (series_of q rs)
by-check w q (refused number place) rs = refl

module _ (w q : ℕ) (b : List ℕ) where
  pub judge-check : check_in (judge w q b) ≡ check w b
  unfolding judge
  judge-check = by-check w q (check w b) (records w b)

  pub judge-accepted : check w b ≡ accepted → judge w q b ≡ judge_records w q (records w b)
  unfolding judge
  judge-accepted e = rw e refl

  -- a judgement only where the check accepts: "A sheet that the check refuses is refused by every other operation"
  pub judgement-accepted : {v n grounds : ℕ} {pairs : List Pair} → judge w q b ≡ judgement v n grounds pairs
      → check w b ≡ accepted
  judgement-accepted e = sym judge-check ∙ ap check_in e

  -- and there always
  pub accepted-judgement : check w b ≡ accepted → Accepted w q b
  accepted-judgement e = cases (judge w q b) (judge-check ∙ e)
    where
      cases : (a : Answer) → check_in a ≡ accepted → (v : ℕ) × (n : ℕ) × Says a v n
      cases (refusal number place) f = let z : true ≡ false = cc in never z
      cases (judgement v n grounds pairs) f = (v, n, (grounds, pairs, refl))
