-- The columns as the program goes through them: each to the least failing row so far, its decision kept by the pollutant's number.
-- proofs/ByColumns shows the answer equal to the definition's.
use Rattle.std.specs.Prelude.{ℕ, zero, suc, Bool, true, false, cond, List, [], ◌∷◌, map, ltb, length}
use Rattle.rules.specs.Sheet.{Record, Pollutant, numbers, engines, run_ins, stopped, declared, plan_number}
use Rattle.rules.specs.Plans.{plan_of}
use Rattle.rules.specs.Series.{Decision, is_open, passed_at, failed_at, Pair, pair_of, Answer, judgement}
use Rattle.columns.specs.Columns.{column_of, before_of, Gate, open_after, cause_after, held_after, referral_after, rows_of, gate, up_to}

-- what the columns so far say: the rows that count for the next, whether one has failed, whether one is open, the latest pass,
-- and the decision of each pollutant, 1 first
pub record Tally : Type 0 where
  pub rows : ℕ
  pub failed : Bool
  pub waits : Bool
  pub latest : ℕ
  pub decisions : List Decision

-- before the first column, of the rows that the gate leaves
unfoldable pub started : (w rows : ℕ) → Tally
started w rows = record { rows = rows; failed = false; waits = false; latest = 0; decisions = map (λ p. is_open) (numbers w) }

module _ {A : Type 0} where
  -- x in place p of the list, counted from 1
  abbrev pub put : (p : ℕ) → A → List A → List A
  put p x [] = []
  put zero x (y ∷ ys) = y ∷ ys
  put (suc zero) x (y ∷ ys) = x ∷ ys
  put (suc (suc p)) x (y ∷ ys) = y ∷ put (suc p) x ys

  -- what f says of each pollutant, in the place of its number
  abbrev pub puts : (f : Pollutant → A) → List Pollutant → List A → List A
  puts f [] xs = xs
  puts f (p ∷ ps) xs = puts f ps (put p.number (f p) xs)

-- with the column of the pollutant p
unfoldable pub counted : (p : ℕ) → Decision → Tally → Tally
counted p is_open t =
    record { rows = t.rows; failed = t.failed; waits = true; latest = t.latest; decisions = put p is_open t.decisions }
counted p (passed_at n) t =
    record { rows = t.rows; failed = t.failed; waits = t.waits; latest = cond (ltb t.latest n) n t.latest; decisions = put p (passed_at n) t.decisions }
counted p (failed_at n) t =
    record { rows = n; failed = true; waits = t.waits; latest = t.latest; decisions = put p (failed_at n) t.decisions }

-- with the columns c of the pollutants ps, each to the rows that count by then
unfoldable pub tally : (c : Pollutant → ℕ → Decision) → List Pollutant → Tally → Tally
tally c [] t = t
tally c (p ∷ ps) t = tally c ps (counted p.number (c p t.rows) t)

-- ---- the answer

abbrev pub ended_by : (stop : Bool) → (tested : ℕ) → Gate → List Pair → Answer
ended_by true n (open_after m) ps = judgement 2 n 3 ps
ended_by false n (open_after m) ps = judgement 0 n 0 ps
ended_by stop n (cause_after m) ps = judgement 2 (suc m) 2 ps
ended_by stop n (held_after m) ps = judgement 4 (suc m) 5 ps
ended_by stop n (referral_after m) ps = judgement 3 (suc m) 4 ps

abbrev pub tallied_by : (failed waits : Bool) → (stop : Bool) → (tested : ℕ) → Gate → (rows latest : ℕ) → List Pair → Answer
tallied_by true waits stop n g rows latest ps = judgement 2 rows 1 ps
tallied_by false false stop n g rows latest ps = judgement 1 latest 1 ps
tallied_by false true stop n g rows latest ps = ended_by stop n g ps

-- "every decision at a later row" than the least failing one "becomes open"
unfoldable pub tallied : (stop : Bool) → (tested : ℕ) → Gate → Tally → Answer
tallied stop n g t =
    tallied_by t.failed t.waits stop n g t.rows t.latest (map (λ d. pair_of (up_to t.rows d)) t.decisions)

unfoldable pub judge_by_tally : (w q : ℕ) → List Record → Answer
judge_by_tally w q rs =
    let plan = plan_of (plan_number rs) in
    let ps = declared rs in
    let es = engines rs in
    let g = gate (before_of plan ps es) (length es) in
    tallied (stopped rs) (length es) g (tally (column_of plan ps (run_ins rs) q es) ps (started w (rows_of g)))

-- ---- which pollutants are declared, 1 first: each marked as its column is gone through

unfoldable pub marked : List Pollutant → List Bool → List Bool
marked ps marks = puts (λ p. true) ps marks
