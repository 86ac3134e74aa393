-- Judging row by row, with all declared pollutants together, is judging by columns, one pollutant after the other: for any number of
-- pollutants, but for none.
use Rattle.arithmetic.proofs.Basics.{ℕ, suc, ◌≤◌, arith, ◌≡◌, refl, sym, ap, fun_ext, ◌∙◌, Bool, true, false, List, [], ◌∷◌, map, map-map, length, never}
use Rattle.arithmetic.proofs.Basics.{and-true}
use Rattle.rules.specs.Sheet.{Record, Pollutant, numbers, engines, run_ins, stopped, declared, plan_number}
use Rattle.rules.specs.Plans.{Plan, plan_of}
use Rattle.rules.specs.Series.{Decision, is_open, Standing, Series, has_passed, decision_of, pair_of, pairs, answer, judge_records}
use Rattle.columns.specs.Columns.{before_of, row_of, column_of, Gate, open_after, cause_after, held_after, referral_after, rows_of, gate, up_to, all_passed, columns_at}
use Rattle.columns.specs.Tally.{Tally, started, tally, ended_by, tallied, judge_by_tally}
use Rattle.columns.proofs.Cut.{Column, is-column, stays}
use Rattle.columns.proofs.Walk.{closed_by, Outcome, rests, passes, fails, walked}
use Rattle.columns.proofs.Numbers.{Rising, value_or, puts-numbers}
use Rattle.columns.proofs.Tally.{tally-fails, tally-passes, tally-rests, tally-decisions}

module _ (c : Pollutant → ℕ → Decision) (h : (p : Pollutant) → Column (c p)) where
  -- where all have passed, nothing more is looked at
  passed-stay : (m n : ℕ) → m ≤ n → (ps : List Pollutant) → all_passed (columns_at c m ps) ≡ true → columns_at c m ps ≡ columns_at c n ps
  passed-stay m n l [] e = refl
  passed-stay m n l (p ∷ ps) e =
      let f = and-true (has_passed (c p m)) (all_passed (columns_at c m ps)) e in
      rw (stays (h p) has_passed refl m n l f.0, passed-stay m n l ps f.1) refl

  value-is : (n m : ℕ) (ps : List Pollutant) → value_or n is_open (λ p. c p m) ps ≡ decision_of n (columns_at c m ps)
  value-is n m [] = refl
  value-is n m (p ∷ ps) = rw (value-is n m ps) refl

  module _ (w : ℕ) (ps : List Pollutant) (rising : Rising 0 ps) (g : Gate) where
    abbrev stand : ℕ → List Standing
    stand n = columns_at c n ps

    abbrev final : Tally
    final = tally c ps (started w (rows_of g))

    final-pairs : (m : ℕ) → final.rows ≡ m → map (λ d. pair_of (up_to m d)) final.decisions ≡ pairs w (stand m)
    unfolding started pairs
    final-pairs m e =
        sym (map-map pair_of (up_to m) final.decisions)
        ∙ (rw (
          tally-decisions c h m ps (started w (rows_of g)) (rw e (omega arith)),
          map-map (up_to m) (λ p. is_open) (numbers w),
          puts-numbers (λ p. c p m) w ps (λ p. is_open) 0 rising,
          map-map pair_of (λ n. value_or n is_open (λ p. c p m) ps) (numbers w),
        ) (ap (λ (v : ℕ → Decision). map (λ n. pair_of (v n)) (numbers w)) (fun_ext (λ n. value-is n m ps))))

    closed-answer : (stop : Bool) (n : ℕ) (x : Gate) (ss : List Standing) → answer w stop n (closed_by x ss) ≡ ended_by stop n x (pairs w ss)
    closed-answer true n (open_after m) ss = refl
    closed-answer false n (open_after m) ss = refl
    closed-answer stop n (cause_after m) ss = refl
    closed-answer stop n (held_after m) ss = refl
    closed-answer stop n (referral_after m) ss = refl

    judged : (stop : Bool) (n : ℕ) (s : Series) → Outcome g stand s → answer w stop n s ≡ tallied stop n g final
    unfolding tallied started
    judged stop n s (rests f p) =
        let u = tally-rests c h (rows_of g) ps (started w (rows_of g)) f (record { rows = refl; failed = refl; waits = λ z. never (sym z ∙ p) }) in
        rw (u.failed, u.waits refl, u.rows, final-pairs (rows_of g) u.rows) (closed-answer stop n g (stand (rows_of g)))
    judged stop n s (passes m l o p) =
        let u = tally-passes c h (rows_of g) m l ps (started w (rows_of g)) p
        (record { rows = refl; failed = refl; waits = refl; most = omega arith; here = λ z. never (sym z ∙ o) }) in
        rw (u.failed, u.waits, u.rows, u.here refl, final-pairs (rows_of g) u.rows, passed-stay (suc m) (rows_of g) l ps p) refl
    judged stop n s (fails m l o f) =
        let u = (tally-fails c h m ps (started w (rows_of g)) o (record { later = l; here = λ z. never (sym f ∙ z) })).here refl in
        rw (u.1, u.0, final-pairs (suc m) u.0) refl

-- ---- the law

pub by-columns : (w q : ℕ) (rs : List Record) → 1 ≤ length (declared rs) → Rising 0 (declared rs) → judge_records w q rs ≡ judge_by_tally w q rs
unfolding judge_records judge_by_tally
by-columns w q rs l r =
    let plan : Plan = plan_of (plan_number rs) in
    let ps : List Pollutant = declared rs in
    let vs : List Record = run_ins rs in
    let es : List Record = engines rs in
    judged (column_of plan ps vs q es) (λ p. is-column (before_of plan ps es) (row_of plan vs q es p)) w ps r (gate (before_of plan ps es) (length es))
    (stopped rs) (length es) _ (walked plan ps vs q es l (length es))
