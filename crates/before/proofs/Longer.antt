-- A sheet longer than before is accepted by its newer records alone: without one it is refused, and by a record where its length is no fault.
-- Over whatever a request replaced.
use Rattle.arithmetic.proofs.Basics.{ℕ, ◌*◌, ◌≤◌, ◌<◌, mul-le-mul_left, arith, ◌≡◌, refl, sym, ◌∙◌, Bool, false, not, cond, List, [], ◌∷◌, ◌++◌, eqb, length}
use Rattle.arithmetic.proofs.Basics.{eqb-false, not-true, by-test}
use Rattle.rules.specs.Tools.{any}
use Rattle.rules.specs.Sheet.{Record, size, records}
use Rattle.rules.specs.Refusals.{faults, fault_of_lem, Check, accepted, refused, check_from, bad_length_lem, check}
use Rattle.accepted.proofs.Records.{whole-records, length-records}
use Rattle.accepted.proofs.Faultless.{Clean, sound}
use Rattle.answers.proofs.Ranges.{first-such}
use Rattle.before.specs.Operations.{Old}
use Rattle.before.specs.Operations as old
use Rattle.before.proofs.Same.{Added, check-same}

-- ---- a refusal with the number of a record's fault

abbrev pub RefusedByRecord : Check → Type 0
RefusedByRecord c = (number : ℕ) × (place : ℕ) × (c ≡ refused number place) × (number ≡ 1 → ⊥)

abbrev ByRecord : Check → Type 0
ByRecord accepted = Unit {0}
ByRecord (refused number place) = number ≡ 1 → ⊥

-- refusal 1 is none of a record's
fault-of-record : (w : ℕ) (before : List Record) (r : Record) → eqb (fault_of_lem w before r) 0 ≡ false → fault_of_lem w before r ≡ 1 → ⊥
unfolding fault_of_lem faults
fault-of-record w before r o = eqb-false (fault_of_lem w before r) 1 (not-true _ (first-such (λ n. not (eqb n 1)) (faults w before r) refl o))

by-record : (w : ℕ) (before rs : List Record) → ByRecord (check_from w before rs)
unfolding check_from
by-record w before [] = tt
by-record w before (r ∷ rs) =
    by-test (λ t. ByRecord (cond t (check_from w (before ++ (r ∷ [])) rs) (refused (fault_of_lem w before r) (length before)))) (eqb (fault_of_lem w before r) 0)
    (λ e. by-record w (before ++ (r ∷ [])) rs) (λ e. fault-of-record w before r e)

-- ---- longer sheets

-- what is asked of a request besides: records that the check accepts, none of them newer, are no more than there were
abbrev pub Fits : (o : Old) → (is_new : Record → Bool) → Type 0
Fits o is_new = (w : ℕ) (rs : List Record) → Clean w [] rs → any is_new rs ≡ false → length rs ≤ o.most w

module _ {o : Old} {is_new : Record → Bool} (a : Added o is_new) (fits : Fits o is_new) (w : ℕ) (b : List ℕ) (plain : any is_new (records w b) ≡ false) where
  pub no-more-bytes : check w b ≡ accepted → length b ≤ o.most w * size w
  no-more-bytes e =
      let i : length b ≡ size w * length (records w b) = rw (length-records w b) (whole-records (size w) (length b) (sound w b e).whole) in
      omega (arith, mul-le-mul_left (size w) (fits w (records w b) (sound w b e).clean plain))

  -- so it was accepted before
  pub accepted-before : check w b ≡ accepted → old.check o w b ≡ accepted
  accepted-before e = sym (check-same a w b (no-more-bytes e) plain) ∙ e

  pub more-is-refused : bad_length_lem w (length b) ≡ false → o.most w * size w < length b → RefusedByRecord (check w b)
  unfolding check
  more-is-refused l h = cases (check_from w [] (records w b)) (rw l refl) (by-record w [] (records w b))
    where
      cases : (c : Check) → check w b ≡ c → ByRecord c → RefusedByRecord (check w b)
      cases accepted e r = absurd (omega (arith, no-more-bytes e))
      cases (refused number place) e r = (number, place, e, r)
