-- A column by running sums: what its loop keeps, and what a row makes of it.
use Rattle.arithmetic.proofs.Basics.{ℕ, zero, suc, ◌+◌, ◌*◌, ◌≤◌, ◌<◌, le_trans, mul-le-mul_left, mul-le-mul_right, arith, add-one, ◌≡◌, refl, sym, ◌∙◌, cond, List, [], ◌∷◌, ◌++◌}
use Rattle.arithmetic.proofs.Basics.{leb, ltb, eqb, length, get_or, take, length-map, take-suc, length-take-le, lt-ltb, le-ltb, by-test}
use Rattle.arithmetic.proofs.Basics.{map-append, length-those}
use mir.Val.{bool_byte}
use Rattle.rules.specs.Tools.{any}
use Rattle.rules.specs.Logarithm.{squarings, g}
use Rattle.rules.specs.Sheet.{Record, size, records, measurement}
use Rattle.rules.specs.Plans as plans
use Rattle.rules.specs.Plans.{count_over}
use Rattle.rules.specs.Series as rules
use Rattle.accepted.specs.Sheets.{record_at_lem, run_ins_in, engines_in, AcceptedSheet}
use Rattle.accepted.proofs.Causes.{has_cause}
use Rattle.accepted.proofs.Ranges.{InRange, number_in, measurements-in}
use Rattle.accepted.proofs.Sheets.{clean, engine-is, caused, rows_fit, last-most, inside, few, record-inside}
use Rattle.columns.proofs.Cut.{Column, is-column, column-start, column-next, passed-stays, failed-stays}
use Rattle.columns.proofs.Gates.{gate-free, gate-most}
use Rattle.causes.specs.Causes.{before_in, first_row_lem}
use Rattle.causes.proofs.Emitting.{row-looked}
use Rattle.corrections.specs.Corrections.{correction_in}
use Rattle.corrections.proofs.Correcting.{each_row}
use Rattle.plan.specs.declared.Plan.{Plan}
use Rattle.plan.specs.declared.Plan.TheVariants.{Attributes}
use Rattle.plan.specs.Plan.{plan_is}
use Rattle.logarithm.specs.Four.{Measured}
use Rattle.rows.specs.declared.Row.{Row}
use Rattle.rows.specs.declared.Row.TheVariants as row
use Rattle.rows.specs.Row.{row_is}
use Rattle.decisions.specs.declared.Decision.TheVariants.{Open, Passed, Failed}
use Rattle.statistics.specs.Column.{column_is, ColumnIs, measurements_of_lem, SumsOf}
use Rattle.fours.specs.Fours.{MeasuredRange}
use Rattle.statistics.specs.Ranges.{ColumnRange}
use Rattle.statistics.proofs.Sums.{sum-snoc, squares-snoc, count-snoc}

-- rows are looked at from 3
pub late : (w : ℕ) (b : List ℕ) → 3 ≤ first_row_lem w b
unfolding first_row_lem
late w b = by-test (λ t. 3 ≤ cond t 4 3) (any has_cause (take 3 (engines_in w b))) (λ e. omega arith) (λ e. omega arith)

-- ---- the column of the pollutant p, its limit L and its deviation t

module _ (w : ℕ) (plan : Plan) (b : List ℕ) (p L t : ℕ) where
  -- what row n says
  abbrev pub says : ℕ → plans.Row
  says n = plans.row (plan_is plan) squarings n L t (rules.correction (run_ins_in w b) (take n (engines_in w b)) p) (measurements_of_lem w b p n)

  -- with the one correction of all rows
  pub says-by : (n : ℕ) → 1 ≤ n → says n ≡ plans.row (plan_is plan) squarings n L t (correction_in w b p) (measurements_of_lem w b p n)
  says-by n h = rw (each_row (run_ins_in w b) (engines_in w b) p n h) refl

  pub column-none : column_is w plan b p L t 0 ≡ rules.is_open
  column-none = column-start (before_in w (plan_is plan) b) says

  -- before row 3 all is open
  pub early-open : (n : ℕ) → n < 3 → column_is w plan b p L t n ≡ rules.is_open
  unfolding rules.before_row
  early-open zero h = column-none
  early-open (suc n) h = column-next (before_in w (plan_is plan) b) says n ∙ (rw (lt-ltb (suc n) 3 h) (early-open n (omega arith)))

  -- what the program's row n decides: the column is open after it, or has its decision, which stays to the last of the rows
  abbrev pub Tells : (n rows : ℕ) → Row → Type 0
  Tells n rows row.Open = column_is w plan b p L t n ≡ rules.is_open
  Tells n rows row.Pass = ColumnIs w plan b p L t rows (Passed n)
  Tells n rows row.Fail = ColumnIs w plan b p L t rows (Failed n)

  pub tells : (n rows : ℕ) → n ≤ rows → {r s : Row} → column_is w plan b p L t n ≡ rules.decided_at n (row_is r) → r ≡ s → Tells n rows s
  tells n rows l {r} {s} e f = cases s (rw f at e)
    where
      one : Column (column_is w plan b p L t)
      one = is-column (before_in w (plan_is plan) b) says

      cases : (s : Row) → column_is w plan b p L t n ≡ rules.decided_at n (row_is s) → Tells n rows s
      cases row.Open h = h
      cases row.Pass h = record { declared = refl; decides = sym (passed-stays one n n rows l h) }
      cases row.Fail h = record { declared = refl; decides = sym (failed-stays one n n rows l h) }

  -- none of the rows decides
  pub none-tells : {n rows : ℕ} → n ≤ rows → rows ≤ n → column_is w plan b p L t n ≡ rules.is_open → ColumnIs w plan b p L t rows Open
  none-tells {n} {rows} h k e = let z : n ≡ rows = omega arith in record { declared = refl; decides = rw (← z) (sym e) }

-- the sums after n rows
abbrev pub Sums : (w : ℕ) → List ℕ → (p L n gain level sum squares : ℕ) → Type 0
Sums w b p L n gain level sum squares = SumsOf L (correction_in w b p) (measurements_of_lem w b p n) n sum squares gain level

measurement-in : (p : ℕ) (es : List Record) → InRange p es → (i : ℕ) → i < length es → Measured (measurement (get_or es i []) p)
measurement-in p [] r i h = absurd (omega arith)
measurement-in p (e ∷ es) r zero h = (r.0, r.1)
measurement-in p (e ∷ es) r (suc i) h = measurement-in p es r.2 i (omega arith)

module _ {w : ℕ} {b : List ℕ} {start : ℕ} {plan : Plan} {p L t rows : ℕ} (sheet : AcceptedSheet w b (plan_is plan) start) (range : ColumnRange w b plan p L t rows) where
  pub in-engines : (rows ≤ length (engines_in w b)) × (rows ≤ plans.last_row_lem (plan_is plan)) × (rows ≤ 32)
  in-engines =
      let g = gate-most (before_in w (plan_is plan) b) (length (engines_in w b)) in
      let f = rows_fit sheet in
      (omega arith, omega arith, omega (arith, last-most (plan_is plan)))

  -- the measurements are in range
  pub measured-range : MeasuredRange w b start p rows
  measured-range =
      let l = in-engines.0 in
      record {
        column = (number_in w (records w b) (clean sheet) p range.declared).1;
        inside = le_trans (mul-le-mul_left (size w) (omega arith)) (inside sheet);
        few = omega (arith, few sheet);
        measures = λ i h.
            rw (← (engine-is sheet i (omega arith)))
            (measurement-in p (engines_in w b) (measurements-in w (records w b) (clean sheet) p range.declared) i (omega arith));
      }

  -- the place of a measurement in the sheet: it is a small number, and the bytes have it
  pub place-fits : {n : ℕ} → n ≤ rows → size w * (start + n) + 4 * p < 30000
  place-fits {n} h =
      let m = measured-range in
      let s = sheet.sized in
      omega (arith, m.few, m.column, mul-le-mul_right start s, mul-le-mul_right n s)

  pub place_inside : {n : ℕ} → n < rows → size w * (start + n) + 4 * p + 4 ≤ length b
  place_inside {n} h =
      let m = measured-range in
      omega (arith, m.column, record-inside w (start + rows) (length b) (start + n) m.inside (omega arith))

  counted : {n : ℕ} → n ≤ rows → length (measurements_of_lem w b p n) ≡ n
  counted {n} h =
      length-map (take n (engines_in w b)) (λ r. measurement r p) ∙ length-take-le n (engines_in w b) (omega (arith, in-engines))

  pub over-fits : {n over : ℕ} → n ≤ rows → over ≡ count_over L (correction_in w b p) (measurements_of_lem w b p n) → over ≤ 32
  over-fits {n} h e =
      let c = correction_in w b p in
      omega (arith, in-engines, counted h, length-those (λ x. ltb (L * c.first) (x * c.value)) (measurements_of_lem w b p n))

  -- one more engine
  module _ (n : ℕ) (h : n < rows) where
    abbrev r : Record
    r = record_at_lem w b (start + n)

    in_list : n < length (engines_in w b)
    in_list = omega (arith, in-engines)

    first : take (suc n) (engines_in w b) ≡ take n (engines_in w b) ++ (r ∷ [])
    first = rw (← (engine-is sheet n in_list)) (take-suc (engines_in w b) n [] in_list)

    more : measurements_of_lem w b p (suc n) ≡ measurements_of_lem w b p n ++ (measurement r p ∷ [])
    more = rw first (map-append (λ r. measurement r p) (take n (engines_in w b)) (r ∷ []))

    -- plan 3: the engines over the limit
    pub over-more : {over x : ℕ} → let c = correction_in w b p in over ≡ count_over L c (measurements_of_lem w b p n) → x ≡ measurement r p
        → over + bool_byte (ltb (L * c.first) (x * c.value)) ≡ count_over L c (measurements_of_lem w b p (n + 1))
    over-more f e = let c = correction_in w b p in rw (e, add-one n, more, count-snoc L c (measurements_of_lem w b p n) (measurement r p), f) refl

    -- plans 1, 2, 4 and 5
    pub sums-more : {gain level sum squares : ℕ} → Sums w b p L n gain level sum squares → {y : ℕ} → y ≡ g squarings (measurement r p)
        → Sums w b p L (n + 1) gain level (sum + y) (squares + y * y)
    sums-more f e =
        rw (e, add-one n)
        (record {
          count = sym (counted (omega arith));
          sum_is = rw (more, sum-snoc (measurements_of_lem w b p n) (measurement r p), f.sum_is) refl;
          squares_is = rw (more, squares-snoc (measurements_of_lem w b p n) (measurement r p), f.squares_is) refl;
          gain_is = f.gain_is;
          level_is = f.level_is;
        })

    -- what row n + 1 makes of a column that is open, where it is looked at and where not
    pub row_more : column_is w plan b p L t n ≡ rules.is_open → {first : ℕ} → first ≡ first_row_lem w b
        → column_is w plan b p L t (n + 1) ≡ cond (leb first (n + 1)) (rules.decided_at (n + 1) (says w plan b p L t (n + 1))) rules.is_open
    row_more o e =
        rw (e, add-one n)
        (column-next (before_in w (plan_is plan) b) (says w plan b p L t) n
        ∙ (rw o
        (row-looked w b (suc n) (plan_is plan) (caused sheet)
        (gate-free (before_in w (plan_is plan) b) (length (engines_in w b)) n (omega arith)) (says w plan b p L t (suc n)))))

-- what row n + 1 of plan 3 makes of a column that is open, where so many engines are over the limit
pub count-makes : (w : ℕ) (b : List ℕ) (p L t n : ℕ) → 3 ≤ n + 1 → column_is w Attributes b p L t n ≡ rules.is_open
    → {over : ℕ} → over ≡ count_over L (correction_in w b p) (measurements_of_lem w b p (n + 1)) → {u : plans.Row}
    → u ≡ plans.decide (plans.attributes_passes (n + 1) over) (eqb (n + 1) (plans.last_row_lem plans.attributes)) (plans.attributes_fails (n + 1) over)
    → column_is w Attributes b p L t (n + 1) ≡ rules.decided_at (n + 1) u
unfolding rules.before_row plans.row plans.row_passes plans.row_fails
count-makes w b p L t n h o f e =
    rw (e, f, add-one n)
    (column-next (before_in w plans.attributes b) (says w Attributes b p L t) n
    ∙ (rw (o, le-ltb (suc n) 3 (omega arith), says-by w Attributes b p L t (suc n) (omega arith)) refl))
