-- Plans 1, 2, 4 and 5: what the loop keeps, and what a row makes of it.
use Rattle.arithmetic.proofs.Basics.{ℕ, ◌+◌, ◌*◌, ◌%◌, ◌≤◌, ◌<◌, arith, ◌≡◌, refl, sym, ap, ◌∙◌, cond, List, leb, le-leb, lt-leb, get_or}
use Rattle.rules.specs.Logarithm.{squarings, g}
use Rattle.rules.specs.Series.{is_open, decided_at}
use Rattle.accepted.specs.Sheets.{AcceptedSheet}
use Rattle.logarithm.proofs.Bounds.{g-fits}
use Rattle.plan.specs.declared.Plan.{Plan}
use Rattle.plan.specs.Plan.{plan_is}
use Rattle.rows.specs.declared.Row.{Row}
use Rattle.decisions.specs.declared.Decision.TheVariants.{Open}
use Rattle.causes.specs.Causes.{first_row_lem}
use Rattle.corrections.specs.declared.factors.Correction.{Correction}
use Rattle.fours.specs.Fours.{four_from, Logs}
use Rattle.fours.proofs.Places.{place_is}
use Rattle.statistics.specs.Column.{column_is, ColumnIs, RowFrom}
use Rattle.statistics.specs.Ranges.{highest, RowRange, LogarithmsRange}
use Rattle.statistics.proofs.Sums.{sums-fit, row-range}
use Rattle.statistics.proofs.Going.{says, says-by, column-none, Tells, tells, none-tells, late, in-engines, Sums, sums-more, row_more}

-- after n rows the column is open, the sums are those of the engines so far, and the four logarithms at hand are those that the last row
-- stands among
pub record Summed (w : ℕ) (b : List ℕ) (start : ℕ) (plan : Plan) (p L t rows n : ℕ) (logs : List ℕ) (gain level sum squares : ℕ) : Type 0 where
  pub most : n ≤ rows
  pub at_hand : Logs logs w b start p rows n
  pub free : column_is w plan b p L t n ≡ is_open
  pub sums : Sums w b p L n gain level sum squares

module _ {w : ℕ} {b : List ℕ} {start : ℕ} {plan : Plan} {p L t rows : ℕ} {c : Correction} (sheet : AcceptedSheet w b (plan_is plan) start) (range : LogarithmsRange w b plan p L c t rows) where
  -- the limit's logarithm, and what is added to each logarithm and taken away
  module _ {logs : List ℕ} (e : logs ≡ four_from w b start p L rows 0) {u : ℕ} (ue : u ≡ g squarings c.first) where
    limit-is : get_or logs 0 0 ≡ g squarings L
    limit-is = ap (λ (xs : List ℕ). get_or xs 0 0) e

    pub level-few : get_or logs 0 0 + u ≤ 2 * highest
    level-few = omega (arith, limit-is, ue, g-fits L, g-fits c.first)

    pub summed-none : {v : ℕ} → v ≡ g squarings c.value → Summed w b start plan p L t rows 0 logs v (get_or logs 0 0 + u) 0 0
    summed-none ve =
        record {
          most = omega arith;
          at_hand = place_is _ _ _ _ _ L 0 0 refl (λ k z. absurd (omega arith)) e;
          free = column-none w plan b p L t;
          sums = record {
            count = refl;
            sum_is = refl;
            squares_is = refl;
            gain_is = rw range.corrected.corrects ve;
            level_is = rw (range.corrected.corrects, limit-is, ue) refl;
          };
        }

  module _ {n : ℕ} {old : List ℕ} {gain level sum squares : ℕ} (s : Summed w b start plan p L t rows n old gain level sum squares) (l : n < rows)
      {logs : List ℕ} (e : Logs logs w b start p rows (n + 1)) where
    abbrev y : ℕ
    y = get_or logs ((n + 1) % 4) 0

    -- the sums with one engine more
    more : Sums w b p L (n + 1) gain level (sum + y) (squares + y * y)
    more = sums-more sheet range.corrected.column n l s.sums (e.each _ refl l)

    row-most : n + 1 ≤ 32
    row-most = omega (arith, in-engines sheet range.corrected.column)

    pub sum-few : sum + y ≤ 32 * highest
    sum-few = (sums-fit more row-most).0

    pub squares-few : squares + y * y ≤ 32 * (highest * highest)
    squares-few = (sums-fit more row-most).1

    module _ {first : ℕ} (f : first ≡ first_row_lem w b) where
      -- what the row makes of the column, where it is looked at and where not
      made : column_is w plan b p L t (n + 1) ≡ cond (leb first (n + 1)) (decided_at (n + 1) (says w plan b p L t (n + 1))) is_open
      made = row_more sheet range.corrected.column n l s.free f

      pub summed-range : first ≤ n + 1 → RowRange plan (n + 1) (sum + y) (squares + y * y) gain level t
      summed-range h =
          row-range more range.logs (omega (arith, late w b, f, h)) (omega (arith, in-engines sheet range.corrected.column)) range.corrected.column.deviation

      -- what the row decides
      pub sums-told : first ≤ n + 1 → {r z : Row} → RowFrom plan (n + 1) (sum + y) (squares + y * y) gain level t r → r ≡ z
          → Tells w plan b p L t (n + 1) rows z
      sums-told h from d =
          tells w plan b p L t (n + 1) rows (omega arith)
          (rw (le-leb first (n + 1) h) at made ∙ ap (λ r. decided_at (n + 1) r) (says-by w plan b p L t (n + 1) (omega arith) ∙ sym (from _ _ _ more))) d

      -- a row that is not looked at
      pub sums-skip : n + 1 < first → column_is w plan b p L t (n + 1) ≡ is_open
      sums-skip h = rw (lt-leb first (n + 1) h) at made

    -- the next row
    pub summed-next : column_is w plan b p L t (n + 1) ≡ is_open → Summed w b start plan p L t rows (n + 1) logs gain level (sum + y) (squares + y * y)
    summed-next o = record { most = omega arith; at_hand = e; free = o; sums = more }

  pub summed-all : {n : ℕ} {logs : List ℕ} {gain level sum squares : ℕ} → Summed w b start plan p L t rows n logs gain level sum squares → rows ≤ n
      → ColumnIs w plan b p L t rows Open
  summed-all s h = none-tells _ _ _ _ _ _ s.most h s.free
