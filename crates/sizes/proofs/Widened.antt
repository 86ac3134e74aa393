-- Records of w pollutants that declare none above w, and their widened forms of w + k: the check says the same of both.
use Rattle.arithmetic.proofs.Basics.{ℕ, zero, suc, ◌+◌, ◌-◌, ◌*◌, ◌≤◌, ◌<◌, add-zero, add-suc, arith, ◌≡◌, refl, sym, ap, ◌∙◌, false, not, ◌&&◌}
use Rattle.arithmetic.proofs.Basics.{List, [], ◌∷◌, map, map-map, map-id, eqb, length, drop, replicate, length-append, length-replicate, length-drop}
use Rattle.arithmetic.proofs.Basics.{get_or-eq_default, take_all, take_at, ltb-false, le-leb, or_same, and_right, by-test, any_snoc}
use Rattle.arithmetic.proofs.Pairs.{Pairs, none, more, pairs-length, pairs-append}
use Rattle.rules.specs.Tools.{any, byte}
use Rattle.rules.specs.Sheet.{Record, Pollutant, size, numbers, pollutant_kind, kind, number, measurement, declared}
use Rattle.rules.specs.Refusals.{bad_number, bad_value_lem, bad_measurement_lem, nonzero, unused, faults, fault_of_lem, check_from}
use Rattle.rules.specs.Converter.{above, widened_record, narrowed_record}
use Rattle.sizes.proofs.Joined.{Full, map-full}
use Rattle.sizes.proofs.SameBytes.{SameBytes, same-fault}
use Rattle.sizes.proofs.Columns.{above-one, above-cons, above-snoc, undeclared-above}

-- ---- a record of w pollutants: the same faults with room for k more

module _ (w : ℕ) (r : Record) (full : length r ≡ size w) where
  past_end : (i : ℕ) → size w ≤ i → byte r i ≡ 0
  past_end i h = get_or-eq_default r 0 (omega arith)

  column-zero : (p : ℕ) → w < p → measurement r p ≡ 0
  unfolding measurement
  column-zero p h =
      rw (past_end (4 * p) (omega arith), past_end (4 * p + 1) (omega arith), past_end (4 * p + 2) (omega arith), past_end (4 * p + 3) (omega arith)) refl

  nonzero-full : (n a : ℕ) → size w ≤ n → nonzero r a n ≡ any (λ x. not (eqb x 0)) (drop a r)
  unfolding nonzero
  nonzero-full n a h = ap (any (λ x. not (eqb x 0))) (take_all (n - a) (drop a r) (rw length-drop (omega arith)))

  -- "12, another byte that must be zero"
  unused-columns : (k : ℕ) → unused (w + k) r ≡ unused w r
  unfolding unused
  unused-columns k =
      rw (
        nonzero-full (size (w + k)) 12 (omega arith),
        nonzero-full (size w) 12 (omega arith),
        nonzero-full (size (w + k)) 1 (omega arith),
        nonzero-full (size w) 1 (omega arith),
      ) refl

-- "8, measurement, also one not zero of an undeclared pollutant"
measurement-columns : (w k : ℕ) (ps : List Pollutant) (r : Record) → above w ps ≡ false → length r ≡ size w
    → bad_measurement_lem (w + k) ps r ≡ bad_measurement_lem w ps r
unfolding bad_measurement_lem
measurement-columns w zero ps r a full = rw (add-zero w) refl
measurement-columns w (suc k) ps r a full =
    let p = suc (w + k) in
    let z : bad_value_lem ps r p ≡ false = rw (undeclared-above w ps a p (omega arith), column-zero w r full p (omega arith)) refl in
    rw (add-suc w k, any_snoc (bad_value_lem ps r) (numbers (w + k)) p, z, or_same) (measurement-columns w k ps r a full)

-- "4, pollutant number"
number-columns : (w k : ℕ) (before : List Record) (r : Record) → number r ≤ w → bad_number (w + k) before r ≡ bad_number w before r
unfolding bad_number
number-columns w k before r h = rw (le-leb (number r) (w + k) (omega arith), le-leb (number r) w h) refl

fault-columns : (w k : ℕ) (before : List Record) (r : Record) → above w (declared before) ≡ false → above w (declared (r ∷ [])) ≡ false → length r ≡ size w
    → fault_of_lem (w + k) before r ≡ fault_of_lem w before r
unfolding fault_of_lem faults
fault-columns w k before r a o full =
    let n : eqb (kind r) pollutant_kind && bad_number (w + k) before r ≡ eqb (kind r) pollutant_kind && bad_number w before r =
    by-test (λ t. t && bad_number (w + k) before r ≡ t && bad_number w before r) (eqb (kind r) pollutant_kind)
    (λ e. number-columns w k before r (ltb-false w (number r) (and_right _ _ (sym (above-one w r) ∙ o) e))) (λ e. refl) in
    rw (n, measurement-columns w k (declared before) r a full, unused-columns w r full k) refl

-- ---- the check of records of w pollutants and of their widened forms

module _ (w k : ℕ) where
  pub check-widened : {before after rs ts : List Record} → Pairs SameBytes before after → Pairs SameBytes rs ts → above w (declared before) ≡ false
      → above w (declared rs) ≡ false → Full (size w) rs → check_from (w + k) after ts ≡ check_from w before rs
  unfolding check_from
  check-widened p none a o h = refl
  check-widened {before} {after} p (more {x} {y} {xs} {ys} s r) a o h =
      let u = above-cons w x xs o in
      let f : fault_of_lem (w + k) after y ≡ fault_of_lem w before x = sym (same-fault x y s (w + k) p) ∙ fault-columns w k before x a u.0 h.0 in
      let rest = check-widened (pairs-append p (more s none)) r (above-snoc w before x a u.0) u.1 h.1 in
      rw (f, rest, pairs-length p) refl

  pub length-widened : (r : Record) → length r ≡ size w → length (widened_record k r) ≡ size (w + k)
  length-widened r e = rw (length-append r (replicate (4 * k) 0), length-replicate {A = ℕ} (4 * k) 0) (omega arith)

  pub narrowed-again : (rs : List Record) → Full (size w) rs → map (narrowed_record w) (map (widened_record k) rs) ≡ rs
  narrowed-again rs h =
      map-map (narrowed_record w) (widened_record k) rs
      ∙ map-full (size w) (λ r. narrowed_record w (widened_record k r)) (λ r. r) (λ r e. take_at r (replicate (4 * k) 0) (size w) e) rs h ∙ map-id rs
