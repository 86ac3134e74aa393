-- What corrects a column, by whether the record before the first engine's is one of run-in values; and products compared by a quotient.
use Rattle.arithmetic.proofs.Basics.{ℕ, zero, suc, ◌-◌, ◌*◌, ◌/◌, ◌≤◌, arith, ◌≡◌, refl, sym, ap, ◌∙◌, true, false, List, [], ◌∷◌, eqb, length, get_or, take, add-zero}
use Rattle.std.proofs.Common.{min}
use Rattle.arithmetic.proofs.Basics.{⊎_elim, lt-or-ge, ltb, ltb-true, lt-ltb, le-ltb, never, by-test}
use native.Mathlib.Nat.{div-lt_iff_lt-mul, mul-div_cancel}
use Rattle.rules.specs.Logarithm.{greatest}
use Rattle.rules.specs.Sheet.{Record, run_in_kind, records, kind, measurement, declares}
use Rattle.rules.specs.Plans.{Plan}
use Rattle.rules.specs.Series.{correction}
use Rattle.accepted.specs.Sheets.{record_at_lem, pollutants_in, run_ins_in, engines_in, AcceptedSheet}
use Rattle.accepted.proofs.Ranges.{InRange, measurements-in, run-in-values-in}
use Rattle.accepted.proofs.Sheets.{clean, run-in-is, engine-is}
use Rattle.logarithm.specs.Four.{Measured}
use Rattle.corrections.specs.Corrections.{correction_in}

-- every row has the same correction, for the first engine is the first of every row's
pub each_row : (vs es : List Record) (p n : ℕ) → 1 ≤ n → correction vs (take n es) p ≡ correction vs es p
each_row [] es p n h = refl
each_row (v ∷ vs) es p zero h = absurd (omega arith)
each_row (v ∷ vs) [] p (suc n) h = refl
each_row (v ∷ vs) (e ∷ es) p (suc n) h = refl

first-in : (p : ℕ) (es : List Record) → 1 ≤ length es → InRange p es → Measured (measurement (get_or es 0 []) p)
first-in p [] h r = absurd (omega arith)
first-in p (e ∷ es) h r = (r.0, r.1)

-- the correction has these numbers, and they are in range
pub record CorrectedBy (w : ℕ) (b : List ℕ) (p x y : ℕ) : Type 0 where
  pub is : correction_in w b p ≡ record { value = x; first = y }
  pub value : Measured x
  pub first : Measured y

module _ {w : ℕ} {b : List ℕ} {plan : Plan} {start : ℕ} (sheet : AcceptedSheet w b plan start) where
  module _ (tested : 1 ≤ length (engines_in w b)) where
    -- the first engine's record
    first-is : get_or (engines_in w b) 0 [] ≡ record_at_lem w b start
    first-is = engine-is sheet 0 (omega (arith, tested)) ∙ ap (record_at_lem w b) (add-zero start)

    pub run_in : {p : ℕ} → declares (pollutants_in w b) p ≡ true → {k x y : ℕ} → k ≡ kind (record_at_lem w b (start - 1)) → k ≡ run_in_kind
        → x ≡ measurement (record_at_lem w b (start - 1)) p → y ≡ measurement (record_at_lem w b start) p → CorrectedBy w b p x y
    run_in {p} declared i e ex ey =
        let v : run_ins_in w b ≡ record_at_lem w b (start - 1) ∷ [] = rw (← i, e) at (run-in-is sheet) in
        let c = clean sheet in
        let values : InRange p (record_at_lem w b (start - 1) ∷ []) = rw v at (run-in-values-in w (records w b) c p declared) in
        rw (ex, ey)
        (record {
          is = rw (v, first-is) refl;
          value = (values.0, values.1);
          first = rw first-is at (first-in p (engines_in w b) tested (measurements-in w (records w b) c p declared));
        })

  pub plain : {p k : ℕ} → k ≡ kind (record_at_lem w b (start - 1)) → eqb k run_in_kind ≡ false → CorrectedBy w b p 1 1
  plain i e =
      let v : run_ins_in w b ≡ [] = rw (← i, e) at (run-in-is sheet) in
      record { is = rw v refl; value = (omega arith, omega arith); first = (omega arith, omega arith) }

-- ---- comparing products by a quotient

-- a / v is below x exactly if a is below x × v
quotient : (a v x : ℕ) → 1 ≤ v → ltb (a / v) x ≡ ltb a (x * v)
quotient a v x h =
    by-test (λ t. ltb (a / v) x ≡ t) (ltb a (x * v))
    (λ e. lt-ltb (a / v) x ((div-lt_iff_lt-mul h).1 (ltb-true a (x * v) e)))
    (λ e.
    by-test (λ t. t ≡ false) (ltb (a / v) x)
    (λ f. let l = (div-lt_iff_lt-mul h).0 (ltb-true (a / v) x f) in never (sym (lt-ltb a (x * v) l) ∙ e)) (λ f. refl))

-- where the two are equal
pub most-is-limit : (L v x : ℕ) → 1 ≤ v → ltb L x ≡ ltb (L * v) (x * v)
most-is-limit L v x h = rw (sym (quotient (L * v) v x h)) (ap (λ (m : ℕ). ltb m x) (sym (mul-div_cancel L h)))

-- the quotient, and the greatest measurement where that is less
pub most-is-quotient : (a v x : ℕ) → 1 ≤ v → {m : ℕ} → m ≡ a / v → ltb m x ≡ ltb a (x * v)
most-is-quotient a v x h e = rw e (quotient a v x h)

pub most-is-greatest : (a v x : ℕ) → 1 ≤ v → greatest ≤ a / v → x ≤ greatest → ltb greatest x ≡ ltb a (x * v)
most-is-greatest a v x h l k =
    le-ltb greatest x k ∙ sym (sym (quotient a v x h) ∙ le-ltb (a / v) x (omega arith))

-- the least of the two
pub most-is-least : (a v x : ℕ) → 1 ≤ v → x ≤ greatest → ltb (min (a / v) greatest) x ≡ ltb a (x * v)
most-is-least a v x h k =
    ⊎_elim (λ l. most-is-quotient a v x h (omega (arith, l)))
    (λ l. let e : min (a / v) greatest ≡ greatest = omega (arith, l) in rw e (most-is-greatest a v x h l k)) (lt-or-ge (a / v) greatest)
