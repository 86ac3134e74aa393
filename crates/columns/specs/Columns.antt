-- Judging by columns: the second form of document 01's "The series", one declared pollutant at a time, for any number of them.
-- Here a column and the rows that may be looked at; specs/Tally has the columns one after the other, and proofs/ByColumns shows the
-- answer equal to the definition's.
use Rattle.std.specs.Prelude.{ℕ, zero, suc, Bool, true, false, cond, List, map, leb, take}
use Rattle.rules.specs.Tools.{any, all}
use Rattle.rules.specs.Sheet.{Record, Pollutant, measurement}
use Rattle.rules.specs.Plans.{Plan, Row, row}
use Rattle.rules.specs.Series.{Decision, is_open, passed_at, failed_at, Standing, Before, early, equal_cause, finding_pending, referral, left_open, statistics, before_row, looked_at, correction, has_failed, has_passed}

-- ---- one column: a pollutant's decision as if it were alone, but for what comes before each row

-- row n on one decision: what comes before it, and what it says
abbrev pub turned : Before → (n : ℕ) → Row → Decision → Decision
turned early n r d = d
turned equal_cause n r d = d
turned finding_pending n r d = d
turned referral n r d = d
turned left_open n r d = d
turned statistics n r d = looked_at n r d

-- the decision after the rows to n
unfoldable pub column : (before : ℕ → Before) → (says : ℕ → Row) → (n : ℕ) → Decision
column before says zero = is_open
column before says (suc n) = turned (before (suc n)) (suc n) (says (suc n)) (column before says n)

-- what comes before row n, and what it says of the pollutant p
abbrev pub before_of : Plan → List Pollutant → (es : List Record) → ℕ → Before
before_of plan ps es n = before_row plan ps n (take n es)

abbrev pub row_of : Plan → (run_ins : List Record) → (q : ℕ) → (es : List Record) → Pollutant → ℕ → Row
row_of plan vs q es p n =
    row plan q n p.limit p.deviation (correction vs (take n es) p.number) (map (λ r. measurement r p.number) (take n es))

abbrev pub column_of : Plan → List Pollutant → (run_ins : List Record) → (q : ℕ) → (es : List Record) → Pollutant → (n : ℕ) → Decision
column_of plan ps vs q es p n = column (before_of plan ps es) (row_of plan vs q es p) n

-- ---- the gate: how many rows' statistics may be looked at

-- the rows before the first, of equal cause, a pending finding or referral, that ends or holds the series at the row behind them; or all of
-- them
pub data Gate : Type 0 where
  open_after cause_after held_after referral_after : (rows : ℕ) → Gate

abbrev pub rows_of : Gate → ℕ
rows_of (open_after n) = n
rows_of (cause_after n) = n
rows_of (held_after n) = n
rows_of (referral_after n) = n

-- the row behind n rows at which the gate is open
abbrev pub opened : Before → (n : ℕ) → Gate
opened early n = open_after (suc n)
opened equal_cause n = cause_after n
opened finding_pending n = held_after n
opened referral n = referral_after n
opened left_open n = open_after (suc n)
opened statistics n = open_after (suc n)

abbrev pub gate_next : Before → Gate → Gate
gate_next b (open_after n) = opened b n
gate_next b (cause_after n) = cause_after n
gate_next b (held_after n) = held_after n
gate_next b (referral_after n) = referral_after n

unfoldable pub gate : (before : ℕ → Before) → (n : ℕ) → Gate
gate before zero = open_after zero
gate before (suc n) = gate_next (before (suc n)) (gate before n)

-- a row that ends or holds the series before its statistics
abbrev pub closes : Before → Bool
closes early = false
closes equal_cause = true
closes finding_pending = true
closes referral = true
closes left_open = false
closes statistics = false

-- ---- the columns together

-- a decision of the rows to m alone
abbrev pub up_to : (m : ℕ) → Decision → Decision
up_to m is_open = is_open
up_to m (passed_at n) = cond (leb n m) (passed_at n) is_open
up_to m (failed_at n) = cond (leb n m) (failed_at n) is_open

-- the standings after n rows of the columns c
abbrev pub columns_at : (c : Pollutant → ℕ → Decision) → (n : ℕ) → List Pollutant → List Standing
columns_at c n ps = map (λ p. record { pollutant = p; decision = c p n }) ps

abbrev pub some_failed : List Standing → Bool
some_failed ss = any (λ s. has_failed s.decision) ss

abbrev pub all_passed : List Standing → Bool
all_passed ss = all (λ s. has_passed s.decision) ss
