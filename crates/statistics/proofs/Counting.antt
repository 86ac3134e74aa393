-- Plan 3: what the loop keeps, and what a row makes of it.
use Rattle.arithmetic.proofs.Basics.{ℕ, ◌+◌, ◌*◌, ◌≤◌, ◌<◌, arith, ◌≡◌, refl, sym, ap, ◌∙◌, Bool, List, eqb, ltb}
use mir.Val.{bool_byte}
use Rattle.rules.specs.Tools.{four}
use Rattle.rules.specs.Sheet.{size}
use Rattle.rules.specs.Logarithm as rules
use Rattle.rules.specs.Plans.{count_over, decide, attributes_passes, attributes_fails, last_row_lem, attributes}
use Rattle.rules.specs.Series.{is_open}
use Rattle.accepted.specs.Sheets.{AcceptedSheet}
use Rattle.record.proofs.Places.{measurement-place}
use Rattle.plan.specs.declared.Plan.TheVariants.{Attributes}
use Rattle.rows.specs.declared.Row.{Row}
use Rattle.rows.specs.Row.{row_is}
use Rattle.decisions.specs.declared.Decision.TheVariants.{Open}
use Rattle.corrections.specs.declared.factors.Correction.{Correction}
use Rattle.corrections.specs.Corrections.{correction_in}
use Rattle.fours.specs.Fours.{measured_at}
use Rattle.statistics.specs.Column.{column_is, ColumnIs, measurements_of_lem}
use Rattle.statistics.specs.Ranges.{CorrectedRange}
use Rattle.statistics.proofs.Going.{column-none, Tells, tells, none-tells, measured-range, over-fits, over-more, count-makes}

-- after n rows the column is open, and the place is that of the next measurement
pub record Counted (w : ℕ) (b : List ℕ) (start p L rows n at over : ℕ) : Type 0 where
  pub most : n ≤ rows
  pub place : at ≡ size w * (start + n) + 4 * p
  pub over_is : over ≡ count_over L (correction_in w b p) (measurements_of_lem w b p n)
  pub free : (t : ℕ) → column_is w Attributes b p L t n ≡ is_open

module _ {w : ℕ} {b : List ℕ} {start p L rows : ℕ} {c : Correction} (sheet : AcceptedSheet w b attributes start) (range : CorrectedRange w b Attributes p L c 0 rows) where
  pub counted-none : {at : ℕ} → at ≡ size w * start + 4 * p → Counted w b start p L rows 0 at 0
  counted-none e = record { most = omega arith; place = omega (arith, e); over_is = refl; free = λ t. column-none w Attributes b p L t }

  module _ {n at over : ℕ} (k : Counted w b start p L rows n at over) (l : n < rows) where
    -- the measurement that is read
    read : {x : ℕ} → x ≡ four b at → x ≡ measured_at w b start p n
    read e = e ∙ ap (λ (i : ℕ). four b i) k.place ∙ sym (measurement-place _ _ _ _ (measured-range sheet range.column).column)

    module _ {x : ℕ} (xe : x ≡ four b at) (most : ℕ) (me : (y : ℕ) → y ≤ rules.greatest → ltb most y ≡ ltb (L * c.first) (y * c.value)) where
      -- the engines over the limit with one more
      more : over + bool_byte (ltb most x) ≡ count_over L (correction_in w b p) (measurements_of_lem w b p (n + 1))
      more =
          let m : x ≤ rules.greatest = rw (read xe) ((measured-range sheet range.column).measures n l).1 in
          ap (λ (t : Bool). over + bool_byte t) (me x m)
          ∙ ap (λ (f : rules.Correction). over + bool_byte (ltb (L * f.first) (x * f.value))) (sym range.corrects)
          ∙ over-more sheet range.column n l k.over_is (read xe)

      pub over-few : over + bool_byte (ltb most x) ≤ 32
      over-few = over-fits sheet range.column {n = n + 1} (omega arith) more

      -- what the row decides
      pub count-told : 3 ≤ n + 1 → {r s : Row}
          → row_is r ≡ decide (attributes_passes (n + 1) (over + bool_byte (ltb most x))) (eqb (n + 1) (last_row_lem attributes)) (attributes_fails (n + 1) (over + bool_byte (ltb most x)))
          → r ≡ s → (t : ℕ) → Tells w Attributes b p L t (n + 1) rows s
      count-told h e d t = tells _ Attributes _ _ _ t _ _ (omega arith) (count-makes _ _ _ _ t n h (k.free t) more e) d

      -- the next row
      pub counted-next : {step : ℕ} → step ≡ size w → ((t : ℕ) → column_is w Attributes b p L t (n + 1) ≡ is_open)
          → Counted w b start p L rows (n + 1) (at + step) (over + bool_byte (ltb most x))
      counted-next e o = record { most = omega arith; place = omega (arith, e, k.place); over_is = more; free = o }

  pub counted-all : {n at over : ℕ} → Counted w b start p L rows n at over → rows ≤ n → (t : ℕ) → ColumnIs w Attributes b p L t rows Open
  counted-all k h t = none-tells _ Attributes _ _ _ t k.most h (k.free t)
