-- Two sheets are not turned away exactly if both are accepted, alike in all but the measurements, on run-in sheets the first engine's the
-- same, none higher in the low one, and of plan 1 or 3.
use Rattle.arithmetic.proofs.Basics.{ℕ, ◌≡◌, refl, ◌⊎◌, inl, inr, false, not, ◌||◌, List, eqb, eqb-true, not-false, or-false, by-test}
use Rattle.rules.specs.Sheet.{records, plan_number}
use Rattle.rules.specs.Plans.{known_deviation_lem, attributes, in_service_lem, number_of}
use Rattle.rules.specs.Refusals.{accepted, check}
use Rattle.rules.specs.Demands.{Alike, NoneHigher, SameZeroHours}
use Rattle.rules.specs.Ranges.{differ_elsewhere, differ_at_zero_hours, crossed, other_plan_lem, range_check}
use Rattle.accepted.proofs.Faultless.{sound, cond-accepted, then-accepted}
use Rattle.ranges.proofs.Tests.{differ-alike, alike-differ, crossed-higher, higher-crossed, zero-hours-same, same-zero-hours}

-- ---- "Plans 1 and 3."

abbrev pub OneOrThree : (plan : ℕ) → Type 0
OneOrThree n = (n ≡ number_of known_deviation_lem) ⊎ (n ≡ number_of attributes)

one-or-three : (n : ℕ) → not (eqb n (number_of known_deviation_lem) || eqb n (number_of attributes)) ≡ false → OneOrThree n
one-or-three n e =
    by-test (λ t. not (t || eqb n (number_of attributes)) ≡ false → OneOrThree n) (eqb n (number_of known_deviation_lem))
    (λ h f. inl (eqb-true n (number_of known_deviation_lem) h)) (λ h f. inr (eqb-true n (number_of attributes) (not-false (eqb n (number_of attributes)) f))) e

is-one-or-three : (n : ℕ) → OneOrThree n → not (eqb n (number_of known_deviation_lem) || eqb n (number_of attributes)) ≡ false
is-one-or-three n (inl e) = rw e refl
is-one-or-three n (inr e) = rw e refl

pub not-in-service : (n : ℕ) → OneOrThree n → eqb n (number_of in_service_lem) ≡ false
not-in-service n (inl e) = rw e refl
not-in-service n (inr e) = rw e refl

-- ---- "two sheets alike but for measurements"

pub record Given (w : ℕ) (low high : List ℕ) : Type 0 where
  pub low_fine : check w low ≡ accepted
  pub high_fine : check w high ≡ accepted
  pub alike : Alike w low high
  pub zero_hours : SameZeroHours w low high
  pub ordered : NoneHigher w high low
  pub plan : OneOrThree (plan_number (records w low))

module _ (w : ℕ) (low high : List ℕ) where
  -- what is not turned away is so, and what is so is not turned away
  pub given : range_check w low high ≡ accepted → Given w low high
  unfolding range_check other_plan_lem
  given c =
      let x = then-accepted (check w low) _ c in
      let y = then-accepted (check w high) _ x.1 in
      let d = cond-accepted 27 (differ_elsewhere w low high || differ_at_zero_hours w low high) _ y.1 in
      let e = cond-accepted 28 (crossed w low high) _ d.1 in
      let f = cond-accepted 29 (other_plan_lem w low) _ e.1 in
      let o = or-false (differ_elsewhere w low high) (differ_at_zero_hours w low high) d.0 in
      let m = (sound w low x.0).whole in
      let a = differ-alike w low high m o.0 in
      record {
        low_fine = x.0;
        high_fine = y.0;
        alike = a;
        zero_hours = zero-hours-same w low high o.1;
        ordered = crossed-higher w low high m a e.0;
        plan = one-or-three (plan_number (records w low)) f.0;
      }

  pub given-accepted : Given w low high → range_check w low high ≡ accepted
  unfolding range_check other_plan_lem
  given-accepted g =
      let m = (sound w low g.low_fine).whole in
      rw (
        g.low_fine,
        g.high_fine,
        alike-differ w low high m g.alike,
        same-zero-hours w low high g.zero_hours,
        higher-crossed w low high m g.alike g.ordered,
        is-one-or-three (plan_number (records w low)) g.plan,
      ) refl
