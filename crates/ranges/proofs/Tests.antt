-- The tests of 27 and 28 say of two sheets just what the words of demand 3 do: alike in all but the measurements, on run-in sheets the first
-- engine's the same, and none higher in the low sheet.
use Rattle.arithmetic.proofs.Basics.{ℕ, ◌+◌, ◌*◌, ◌/◌, ◌%◌, ◌<◌, add-zero, mul-le-mul_left, arith, ◌≡◌, refl, sym, ◌∙◌, ⊎_elim, Bool, false, not, ◌&&◌, List, []}
use Rattle.arithmetic.proofs.Basics.{ltb, eqb, length, eqb-true, eq-eqb, not-false, ltb-false, le-ltb, never, or-false, and_right, and-never, by-test, lt-or-ge, any-those, some-none, none-some}
use Rattle.rules.specs.Tools.{any, byte, four}
use Rattle.rules.specs.Sheet.{Record, size, records, run_in_kind, measures, kind, measurement, of_kind, run_ins, numbers}
use Rattle.rules.specs.Demands.{in_measurement, Alike, NoneHigher, NotRunIn, first_engine, SameZeroHours}
use Rattle.rules.specs.Ranges.{differ_elsewhere, differ_at_zero_hours, crossed}
use Rattle.accepted.proofs.Records.{whole-records}
use Rattle.accepted.proofs.Faultless.{of_kind-none}
use Rattle.accepted.proofs.Ranges.{none_of, of_none}
use Rattle.accepted.proofs.Sheets.{whole-inside}

-- byte k of record j lies in whole records exactly if there are more than j of them
below : (s l j k : ℕ) → l % s ≡ 0 → s * j + k < l → j < l / s
below s l j k m h =
    ⊎_elim (λ o. o) (λ o. absurd (omega (arith, whole-records s l m, mul-le-mul_left s o))) (lt-or-ge j (l / s))

-- ---- alike in all but the measurements: the kinds are the same, so that it goes both ways

module _ {w : ℕ} {R S : List ℕ} (a : Alike w R S) where
  alike-kind : (j : ℕ) → size w * j < length R → byte R (size w * j) ≡ byte S (size w * j)
  alike-kind j h = rw add-zero at (a.outside j 0 (omega arith) (rw add-zero h) (and-never (measures (byte R (size w * j)))))

  pub alike-swap : Alike w S R
  alike-swap =
      record {
        equally_long = sym a.equally_long;
        outside = λ j k h i e.
            let i' : size w * j + k < length R = rw a.equally_long i in
            sym (a.outside j k h i' (rw (alike-kind j (omega arith)) e));
      }

-- ---- the tests

module _ (w : ℕ) (low high : List ℕ) (m : length low % size w ≡ 0) where
  pub differ-alike : differ_elsewhere w low high ≡ false → Alike w low high
  unfolding differ_elsewhere
  differ-alike e =
      let t = or-false (not (eqb (length low) (length high))) _ e in
      record {
        equally_long = eqb-true (length low) (length high) (not-false (eqb (length low) (length high)) t.0);
        outside = λ j k h i o.
            let x = some-none _ (length low / size w) t.1 j (below (size w) (length low) j k m i) in
            let y = some-none _ (size w) x k h in
            let z = and_right (not (in_measurement w low j k)) (not (eqb (byte low (size w * j + k)) (byte high (size w * j + k)))) y (rw o refl) in
            eqb-true (byte low (size w * j + k)) (byte high (size w * j + k)) (not-false _ z);
      }

  pub alike-differ : Alike w low high → differ_elsewhere w low high ≡ false
  unfolding differ_elsewhere
  alike-differ a =
      rw (eq-eqb (length low) (length high) a.equally_long)
      (none-some _ (length low / size w)
      (λ j l.
      none-some _ (size w)
      (λ k h.
      by-test (λ x. not x && not (eqb (byte low (size w * j + k)) (byte high (size w * j + k))) ≡ false) (in_measurement w low j k) (λ e. refl)
      (λ e. rw (eq-eqb _ _ (a.outside j k h (omega (arith, whole-inside w (length low) j l)) e)) refl))))

  pub crossed-higher : Alike w low high → crossed w low high ≡ false → NoneHigher w high low
  unfolding crossed
  crossed-higher a e j p i k l u =
      let i' : size w * j < length low = rw a.equally_long i in
      let x = some-none _ (length low / size w) e j (below (size w) (length low) j 0 m (rw add-zero i')) in
      let y = and_right (measures (byte low (size w * j))) _ x (rw (alike-kind a j i') k) in
      ltb-false (four high (size w * j + 4 * p)) (four low (size w * j + 4 * p)) (none_of _ w y p l u)

  pub higher-crossed : Alike w low high → NoneHigher w high low → crossed w low high ≡ false
  unfolding crossed
  higher-crossed a n =
      none-some _ (length low / size w)
      (λ j l.
      let i : size w * j < length low = omega (arith, whole-inside w (length low) j l) in
      by-test (λ x. x && any (λ p. ltb (four high (size w * j + 4 * p)) (four low (size w * j + 4 * p))) (numbers w) ≡ false) (measures (byte low (size w * j)))
      (λ e. of_none _ w (λ p o u. le-ltb (four high (size w * j + 4 * p)) (four low (size w * j + 4 * p)) (n j p (rw (← a.equally_long) i) (rw (← (alike-kind a j i)) e) o u)))
      (λ e. refl))

-- ---- the first engine of a run-in sheet

not-run-in : (rs : List Record) → run_ins rs ≡ [] → any (λ r. eqb (kind r) run_in_kind) rs ≡ false
unfolding of_kind
not-run-in rs e = rw (any-those (λ r. eqb (kind r) run_in_kind) rs, e) refl

module _ (w : ℕ) (low high : List ℕ) where
  abbrev differs : (p : ℕ) → Bool
  differs p = not (eqb (measurement (first_engine w low) p) (measurement (first_engine w high) p))

  pub zero-hours-same : differ_at_zero_hours w low high ≡ false → SameZeroHours w low high
  unfolding differ_at_zero_hours
  zero-hours-same e run p l u =
      by-test (λ t. t && any differs (numbers w) ≡ false → measurement (first_engine w high) p ≡ measurement (first_engine w low) p)
      (any (λ r. eqb (kind r) run_in_kind) (records w low))
      (λ t f. sym (eqb-true _ _ (not-false _ (none_of differs w f p l u)))) (λ t f. absurd (run (of_kind-none run_in_kind (records w low) t))) e

  pub same-zero-hours : SameZeroHours w low high → differ_at_zero_hours w low high ≡ false
  unfolding differ_at_zero_hours
  same-zero-hours z =
      by-test (λ t. t && any differs (numbers w) ≡ false) (any (λ r. eqb (kind r) run_in_kind) (records w low))
      (λ t.
      let run : NotRunIn w low → ⊥ = λ plain. never (sym t ∙ not-run-in (records w low) plain) in
      of_none differs w (λ p l u. rw (eq-eqb _ _ (sym (z run p l u))) refl))
      (λ t. refl)
