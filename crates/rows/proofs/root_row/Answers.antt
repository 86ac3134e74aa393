-- The row's numbers are read out of the plan's table, and the comparisons decide as the two tests do.
use Rattle.arithmetic.proofs.Basics.{◌≡◌, refl, sym, ap, ap₂, ◌∙◌, Bool, true, false, cond, not, ◌&&◌, ◌||◌, ℕ, ◌+◌, ◌-◌, ◌*◌, ◌≤◌, ◌<◌, List, ltb, eqb, ℤ, pos}
use Rattle.arithmetic.proofs.Basics.{eq-eqb, ne_eqb, ltb-true, ltb-false, lt-ltb, le-ltb, nat_abs, lt_z}
use Rattle.rules.specs.Plans.{Plan, last_row_lem}
use Rattle.tables.specs.Tables.{Lent, entry_at, numbers_of_lem, RootNumbers}
use Rattle.tables.proofs.TableRows.{root-numbers}
use Rattle.rows.specs.Ranges.{RootRanges}
use Rattle.rows.proofs.Read.{read, A-read, B-read}
use Rattle.rows.proofs.RootRows.{is_within_lem, within, reached, missed}
use Rattle.rows.proofs.root_row.Goals as goal
use Rattle.rows.proofs.root_row.Goals.{then-over, else-over}

module _ {plan : Plan} {n added taken : ℕ} (ranges : RootRanges plan n added taken) where
  numbers : RootNumbers (eqb n (last_row_lem plan)) (numbers_of_lem plan n).A (numbers_of_lem plan n).B
  numbers = root-numbers ranges.least plan ranges.compares ranges.most

  -- x is the number that D's sign chooses, without its own
  abbrev IsChosen : (x : ℕ) → Type 0
  IsChosen x = x ≡ cond (ltb taken added) (nat_abs (numbers_of_lem plan n).B) (nat_abs (numbers_of_lem plan n).A)

  module _ {t : List (List ℤ)} (lent : Lent plan t) where
    A-is : read (entry_at t (n - 3) 0) ≡ (numbers_of_lem plan n).A
    A-is = A-read lent ranges.least ranges.most numbers.A-most

    B-is : read (entry_at t (n - 3) 1) ≡ (numbers_of_lem plan n).B
    B-is = B-read lent ranges.least ranges.most numbers.B-most

    within-is : {r : Bool} {a k : ℕ} (w : ℕ) (apart : k ≡ (added - taken) + (taken - added))
        → r ≡ not (lt_z (read (entry_at t (n - 3) 0)) (pos 0)) && (not (ltb taken added) || not (ltb (a * a * w) (100000 * k * (100000 * k))))
        → a ≡ nat_abs (read (entry_at t (n - 3) 0)) → r ≡ is_within_lem numbers added taken w k apart
    within-is w apart e f = rw (f, A-is) at e

    module _ {x : ℕ} {z : ℤ} (e : x ≡ nat_abs z) where
      B-chosen : taken < added → z ≡ read (entry_at t (n - 3) 1) → IsChosen x
      B-chosen l f = rw (lt-ltb taken added l) (e ∙ ap nat_abs (f ∙ B-is))

      A-chosen : added ≤ taken → z ≡ read (entry_at t (n - 3) 0) → IsChosen x
      A-chosen l f = rw (le-ltb taken added l) (e ∙ ap nat_abs (f ∙ A-is))

-- the comparison of two products, the second with the square of x
less-is : {r : Bool} {p q m s : ℕ} (x w : ℕ) → r ≡ ltb p q → p ≡ m → q ≡ s * w → s ≡ x * x → r ≡ ltb m (x * x * w)
less-is x w e f g h = e ∙ ap₂ ltb f (g ∙ ap (λ s. s * w) h)

pub returns-then-is_within : goal.returns-then-is_within
returns-then-is_within c =
    let k = c.requires in
    let i = within-is k c.args.table.holds _ c.abs_diff-p.ensures c.is_within.ensures c.unsigned_abs.ensures.value in
    within (numbers k) _ _ _ _ c.abs_diff-p.ensures (sym i ∙ c.if-is_within.true)

pub returns-then-n-last_row : goal.returns-then-n-last_row
returns-then-n-last_row c =
    let k = c.requires in
    let l = c.args.table.holds in
    let u = c.unsigned_abs-2.ensures.value in
    let i = within-is k l _ c.abs_diff-p.ensures c.is_within.ensures c.unsigned_abs.ensures.value in
    let x : IsChosen k c.unsigned_abs-2.result = elim c.if-over.branch [ then-over w ↦ B-chosen k l u w.if-over.true w.x-is | else-over w ↦ A-chosen k l u w.if-over.false w.x-is ] in
    let s = less-is _ _ c.less.ensures c.product.ensures c.product-line.ensures c.square.ensures in
    missed (numbers k) _ _ _ _ c.abs_diff-p.ensures (sym i ∙ c.if-is_within.false) x _ true refl (eq-eqb _ _ (c.if-n-last_row.true ∙ c.last_row.ensures)) (ltb-true _ _ (sym s ∙ c.if-less.true))

pub returns-else-n-last_row : goal.returns-else-n-last_row
returns-else-n-last_row c =
    let k = c.requires in
    let l = c.args.table.holds in
    let u = c.unsigned_abs-2.ensures.value in
    let i = within-is k l _ c.abs_diff-p.ensures c.is_within.ensures c.unsigned_abs.ensures.value in
    let x : IsChosen k c.unsigned_abs-2.result = elim c.if-over.branch [ then-over w ↦ B-chosen k l u w.if-over.true w.x-is | else-over w ↦ A-chosen k l u w.if-over.false w.x-is ] in
    let s = less-is _ _ c.less.ensures c.product.ensures c.product-line.ensures c.square.ensures in
    missed (numbers k) _ _ _ _ c.abs_diff-p.ensures (sym i ∙ c.if-is_within.false) x _ false refl (ne_eqb _ _ (λ e. c.if-n-last_row.false (e ∙ sym c.last_row.ensures))) (ltb-true _ _ (sym s ∙ c.if-less.true))

pub returns-then-over-2 : goal.returns-then-over-2
returns-then-over-2 c =
    let k = c.requires in
    let l = c.args.table.holds in
    let u = c.unsigned_abs-2.ensures.value in
    let i = within-is k l _ c.abs_diff-p.ensures c.is_within.ensures c.unsigned_abs.ensures.value in
    let x : IsChosen k c.unsigned_abs-2.result = elim c.if-over.branch [ then-over w ↦ B-chosen k l u w.if-over.true w.x-is | else-over w ↦ A-chosen k l u w.if-over.false w.x-is ] in
    let s = less-is _ _ c.less.ensures c.product.ensures c.product-line.ensures c.square.ensures in
    reached (numbers k) _ _ _ _ c.abs_diff-p.ensures (sym i ∙ c.if-is_within.false) x true (lt-ltb _ _ c.if-over-2.true) (ltb-false _ _ (sym s ∙ c.if-less.false))

pub returns-else-over-2 : goal.returns-else-over-2
returns-else-over-2 c =
    let k = c.requires in
    let l = c.args.table.holds in
    let u = c.unsigned_abs-2.ensures.value in
    let i = within-is k l _ c.abs_diff-p.ensures c.is_within.ensures c.unsigned_abs.ensures.value in
    let x : IsChosen k c.unsigned_abs-2.result = elim c.if-over.branch [ then-over w ↦ B-chosen k l u w.if-over.true w.x-is | else-over w ↦ A-chosen k l u w.if-over.false w.x-is ] in
    let s = less-is _ _ c.less.ensures c.product.ensures c.product-line.ensures c.square.ensures in
    reached (numbers k) _ _ _ _ c.abs_diff-p.ensures (sym i ∙ c.if-is_within.false) x false (le-ltb _ _ c.if-over-2.false) (ltb-false _ _ (sym s ∙ c.if-less.false))
