-- Document 01, "The series": rows from 3, all declared pollutants together, and what judging answers; and document 02, F-2: the correction
-- by the run-in values, F-11: the row that is left open in plan 4, and F-5: the series that is held while a finding is pending.
use Rattle.std.specs.Prelude.{ℕ, zero, suc, Bool, true, false, not, ◌&&◌, ◌||◌, cond, List, [], ◌∷◌, map, leb, ltb, eqb, length, get_or, take}
use Rattle.rules.specs.Tools.{any, all, those}
use Rattle.rules.specs.Sheet.{Record, Pollutant, numbers, measurement, cause, is_pending, gross, engines, run_ins, stopped, declared, plan_number}
use Rattle.rules.specs.Logarithm.{Correction, uncorrected}
use Rattle.rules.specs.Plans.{Plan, known_deviation_lem, unknown_deviation_lem, attributes, in_service_lem, corrected, plan_of, Row, pass, fail, undecided, row}

-- a pollutant's decision and its engine
pub data Decision : Type 0 where
  is_open : Decision
  passed_at failed_at : (engine : ℕ) → Decision

-- a declared pollutant and its decision so far
pub record Standing : Type 0 where
  pub pollutant : Pollutant
  pub decision : Decision

-- a series: going on, or decided at an engine, a fail with its ground (1 a row, 2 equal cause); or held at a row
pub data Series : Type 0 where
  ongoing : List Standing → Series
  passed : (engine : ℕ) → List Standing → Series
  failed : (engine grounds : ℕ) → List Standing → Series
  referred : (engine : ℕ) → List Standing → Series
  held : (engine : ℕ) → List Standing → Series

-- ---- plan 4, "Before a row's statistics, in order"; 02, F-11: "Equal cause and referral come first as before."

pub data Before : Type 0 where
  early equal_cause finding_pending referral left_open statistics : Before

-- two equal ones among the numbers
abbrev pub repeats : List ℕ → Bool
repeats [] = false
repeats (x ∷ xs) = any (eqb x) xs || repeats xs

-- the causes that are known among them
abbrev pub known : List ℕ → List ℕ
known causes = those (λ c. not (is_pending c)) causes

-- "two gross emitters of equal cause among the first n: the series fails. n = 15 and two or more gross emitters: referred to the
-- authority."; 02, F-5: "At the first row with a pending vehicle among its engines, two equal known causes still fail the series; otherwise
-- the verdict is 4"; 02, F-11: "The authorities now run the statistics on every increased sample (document 000, 3.5), so only row 3 is left
-- open for gross emitters."
unfoldable pub in_service_before : List Pollutant → (n : ℕ) → (first : List Record) → Before
in_service_before ps n first =
    let emitters = those (gross ps) first in
    cond (repeats (known (map cause emitters))) equal_cause
    (cond (any is_pending (map cause emitters)) finding_pending
    (cond (eqb n 15 && leb 2 (length emitters)) referral
    (cond (eqb n 3 && any (gross ps) first) left_open statistics)))

abbrev pub plan_before : Plan → List Pollutant → (n : ℕ) → (first : List Record) → Before
plan_before known_deviation_lem ps n first = statistics
plan_before unknown_deviation_lem ps n first = statistics
plan_before attributes ps n first = statistics
plan_before in_service_lem ps n first = in_service_before ps n first
plan_before corrected ps n first = statistics

-- "Rows are walked from 3."
unfoldable pub before_row : Plan → List Pollutant → (n : ℕ) → (first : List Record) → Before
before_row plan ps n first = cond (ltb n 3) early (plan_before plan ps n first)

-- ---- a row's statistics

abbrev pub decided_at : (n : ℕ) → Row → Decision
decided_at n pass = passed_at n
decided_at n fail = failed_at n
decided_at n undecided = is_open

-- "A pollutant that has passed is not looked at again."
abbrev pub looked_at : (n : ℕ) → Row → Decision → Decision
looked_at n r is_open = decided_at n r
looked_at n r (passed_at m) = passed_at m
looked_at n r (failed_at m) = failed_at m

-- the correction of the pollutant p by the run-in values, "the first engine's values after running-in", and the first of the engines
abbrev pub correction : (run_ins first : List Record) → (p : ℕ) → Correction
correction [] first p = uncorrected
correction (v ∷ vs) first p = record { value = measurement v p; first = measurement (get_or first 0 []) p }

-- row n on one pollutant, with the run-in values and the first n engines
unfoldable pub look : Plan → (run_ins : List Record) → (q n : ℕ) → (first : List Record) → Standing → Standing
look plan vs q n first s =
    let p = s.pollutant in
    record {
      pollutant = p;
      decision =
          looked_at n
          (row plan q n p.limit p.deviation (correction vs first p.number) (map (λ r. measurement r p.number) first))
          s.decision;
    }

abbrev pub has_failed : Decision → Bool
has_failed is_open = false
has_failed (passed_at m) = false
has_failed (failed_at m) = true

abbrev pub has_passed : Decision → Bool
has_passed is_open = false
has_passed (passed_at m) = true
has_passed (failed_at m) = false

-- "Any fail in a row: the series fails there, and every other pollutant deciding in that row keeps its decision. All passed: pass."
abbrev pub settle_by : (any_failed all_passed : Bool) → (n : ℕ) → List Standing → Series
settle_by true all_passed n ss = failed n 1 ss
settle_by false true n ss = passed n ss
settle_by false false n ss = ongoing ss

unfoldable pub settle : (n : ℕ) → List Standing → Series
settle n ss = settle_by (any (λ s. has_failed s.decision) ss) (all (λ s. has_passed s.decision) ss) n ss

-- ---- the walk

-- row n of a series that is going on: "Equal cause, a stop and referral leave open pollutants open."; 02, F-5: where held "open pollutants
-- stay open"
abbrev pub row_by : Before → Plan → (run_ins : List Record) → (q n : ℕ) → (first : List Record) → List Standing → Series
row_by early plan vs q n first ss = ongoing ss
row_by equal_cause plan vs q n first ss = failed n 2 ss
row_by finding_pending plan vs q n first ss = held n ss
row_by referral plan vs q n first ss = referred n ss
row_by left_open plan vs q n first ss = ongoing ss
row_by statistics plan vs q n first ss = settle n (map (look plan vs q n first) ss)

-- row n of any series: "Engines after the decision are checked and counted for nothing.", and those after the row at which it is held
abbrev pub walk : Plan → List Pollutant → (run_ins : List Record) → (q n : ℕ) → (first : List Record) → Series → Series
walk plan ps vs q n first (ongoing ss) = row_by (before_row plan ps n first) plan vs q n first ss
walk plan ps vs q n first (passed m ss) = passed m ss
walk plan ps vs q n first (failed m grounds ss) = failed m grounds ss
walk plan ps vs q n first (referred m ss) = referred m ss
walk plan ps vs q n first (held m ss) = held m ss

unfoldable pub unlooked : Pollutant → Standing
unlooked p = record { pollutant = p; decision = is_open }

-- the series after the first n of the engines es
unfoldable pub after : Plan → List Pollutant → (run_ins : List Record) → (q : ℕ) → (es : List Record) → (n : ℕ) → Series
after plan ps vs q es zero = ongoing (map unlooked ps)
after plan ps vs q es (suc n) = walk plan ps vs q (suc n) (take (suc n) es) (after plan ps vs q es n)

-- ---- what judging answers

-- "decision (0 open or undeclared, 1 pass, 2 fail) and engine (0 where the decision is 0)"
pub data Pair : Type 0 where
  pair : (decision engine : ℕ) → Pair

abbrev pub pair_of : Decision → Pair
pair_of is_open = pair 0 0
pair_of (passed_at n) = pair 1 n
pair_of (failed_at n) = pair 2 n

-- the decision of the pollutant p, open where it is undeclared
abbrev pub decision_of : (p : ℕ) → List Standing → Decision
decision_of p [] = is_open
decision_of p (s ∷ ss) = cond (eqb s.pollutant.number p) s.decision (decision_of p ss)

unfoldable pub pairs : (w : ℕ) → List Standing → List Pair
pairs w ss = map (λ p. pair_of (decision_of p ss)) (numbers w)

-- a refusal's number and record; or "verdict (0 another, 1 pass, 2 fail, 3 referred), engine (for another, the engines so far), ground
-- (0 none, 1 a row, 2 equal cause, 3 stopped, 4 referred)" and a pair for each pollutant, 1 first; 02, F-5: "the verdict is 4, printed
-- `held`, at that row with ground 5"
pub data Answer : Type 0 where
  refusal : (number place : ℕ) → Answer
  judgement : (verdict engine grounds : ℕ) → List Pair → Answer

-- "A stop on an undecided series fails it at the engines tested, also below 3. Otherwise: another."
abbrev pub answer : (w : ℕ) → (stop : Bool) → (tested : ℕ) → Series → Answer
answer w stop n (passed m ss) = judgement 1 m 1 (pairs w ss)
answer w stop n (failed m grounds ss) = judgement 2 m grounds (pairs w ss)
answer w stop n (referred m ss) = judgement 3 m 4 (pairs w ss)
answer w stop n (held m ss) = judgement 4 m 5 (pairs w ss)
answer w true n (ongoing ss) = judgement 2 n 3 (pairs w ss)
answer w false n (ongoing ss) = judgement 0 n 0 (pairs w ss)

-- the answer for the records of a sheet that the check accepts
unfoldable pub judge_records : (w q : ℕ) → List Record → Answer
judge_records w q rs =
    answer w (stopped rs) (length (engines rs))
    (after (plan_of (plan_number rs)) (declared rs) (run_ins rs) q (engines rs) (length (engines rs)))
