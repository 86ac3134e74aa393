-- One pass over the records of two sheets: what was found so far, and with one record more.
use Rattle.arithmetic.proofs.Basics.{ℕ, ◌+◌, ◌*◌, ◌/◌, ◌≤◌, ◌<◌, add-one, arith, ◌≡◌, refl, sym, ap, ◌∙◌, Bool, true, false, not, ◌&&◌, ◌||◌, List, eqb, length}
use Rattle.arithmetic.proofs.Basics.{not-or, or_same, or_assoc}
use Rattle.rules.specs.Tools.{some, byte, four}
use Rattle.rules.specs.Sheet.{size, engine_kind, run_in_kind}
use Rattle.comparing.specs.Records.{disagree, any_disagrees, is_fixed, record_differs, record_crosses, records_differ, records_cross}

-- after k records
pub record Walked (w : ℕ) (low high : List ℕ) (run_in_lem : Bool) (start : ℕ) (differs crosses : Bool) (k : ℕ) : Type 0 where
  pub few : k ≤ length low / size w
  pub differing : differs ≡ some (record_differs w low high run_in_lem start) k
  pub crossing : crosses ≡ some (record_crosses w low high run_in_lem start) k

-- before the first
pub none_yet : (w : ℕ) (low high : List ℕ) (run_in_lem : Bool) (start : ℕ) → Walked w low high run_in_lem start false false 0
none_yet w low high run_in_lem start = record { few = omega arith; differing = refl; crossing = refl }

module _ {w : ℕ} {low high : List ℕ} {run_in_lem : Bool} {start : ℕ} {differs crosses : Bool} {k : ℕ} (s : Walked w low high run_in_lem start differs crosses k) where
  -- behind the last
  module _ (h : length low / size w ≤ k) where
    at_end : k ≡ length low / size w
    at_end = omega (arith, s.few)

    pub all-differ : differs ≡ records_differ w low high run_in_lem start
    unfolding records_differ
    all-differ = rw (← at_end) s.differing

    pub all_cross : crosses ≡ records_cross w low high run_in_lem start
    unfolding records_cross
    all_cross = rw (← at_end) s.crossing

  -- a record that has to be the same in both, and one with measurements
  module _ (h : k < length low / size w) {bytes : ℕ} (bytes_are : bytes ≡ size w) {kind : ℕ} {first : Bool} (kind_is : kind ≡ byte low (bytes * k))
      (first_is : first ≡ disagree true (four low (bytes * k)) (four high (bytes * k))) where
    abbrev is_same : Bool
    is_same = run_in_lem && eqb k start || (not (eqb kind engine_kind) && not (eqb kind run_in_kind))

    fixed-is : is_same ≡ is_fixed w low high run_in_lem start k
    fixed-is = rw (kind_is, bytes_are) (ap (λ (t : Bool). run_in_lem && eqb k start || t) (sym (not-or (eqb (byte low (size w * k)) engine_kind) (eqb (byte low (size w * k)) run_in_kind))))

    pub same_more : is_same ≡ true → {off : Bool} → off ≡ any_disagrees w low high true (bytes * k) → Walked w low high run_in_lem start (differs || first || off) crosses (k + 1)
    same_more t e =
        let f : is_fixed w low high run_in_lem start k ≡ true = sym fixed-is ∙ t in
        record {
          few = omega arith;
          differing = rw (add-one, first_is, e, s.differing, bytes_are, f) (sym (or_assoc (some (record_differs w low high run_in_lem start) k) (disagree true (four low (size w * k)) (four high (size w * k))) (any_disagrees w low high true (size w * k))));
          crossing = rw (add-one, s.crossing, f, or_same) refl;
        }

    pub measured-more : is_same ≡ false → {off : Bool} → off ≡ any_disagrees w low high false (bytes * k) → Walked w low high run_in_lem start (differs || first) (crosses || off) (k + 1)
    measured-more t e =
        let f : is_fixed w low high run_in_lem start k ≡ false = sym fixed-is ∙ t in
        record {
          few = omega arith;
          differing = rw (add-one, first_is, s.differing, bytes_are, f, or_same) refl;
          crossing = rw (add-one, e, s.crossing, bytes_are, f) refl;
        }
