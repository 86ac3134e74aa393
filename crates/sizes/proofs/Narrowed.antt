-- Accepted records of w + k pollutants that declare none above w are zero from there on: each is the widened form of its narrowed one.
use Rattle.arithmetic.proofs.Basics.{ℕ, zero, suc, ◌+◌, ◌-◌, ◌*◌, ◌/◌, ◌%◌, ◌≤◌, ◌<◌, arith, ◌≡◌, refl, sym, ap, ◌∙◌, false, not, ◌||◌, List, [], ◌∷◌, ◌++◌, map}
use Rattle.arithmetic.proofs.Basics.{eqb, length, take, drop, replicate, length-drop, length-take-le, take-append-drop, get_or-take, get_or-drop, get_or-replicate, ext_get_or}
use Rattle.arithmetic.proofs.Basics.{length-replicate, eqb-true, not-false, never, or-false, or_same, any_none}
use Rattle.rules.specs.Tools.{byte, four}
use Rattle.rules.specs.Sheet.{Record, Pollutant, size, kind, measurement, declared}
use Rattle.rules.specs.Refusals.{bad_value_lem, bad_measurement_lem, nonzero, unused, fault_of_lem}
use Rattle.rules.specs.Converter.{above, widened_record, narrowed_record}
use Rattle.accepted.proofs.Faultless.{Clean, faultless, by_kind}
use Rattle.accepted.proofs.Ranges.{none_of}
use Rattle.sizes.proofs.Joined.{Full}
use Rattle.sizes.proofs.Columns.{above-cons, above-snoc, undeclared-above}

-- ---- one record

pub length-narrowed : (w k : ℕ) (r : Record) → length r ≡ size (w + k) → length (narrowed_record w r) ≡ size w
length-narrowed w k r e = length-take-le (size w) r (omega arith)

-- zero above w, it is the widened form of its narrowed one
widened-narrowed : (w k : ℕ) (r : Record) → length r ≡ size (w + k) → ((i : ℕ) → size w ≤ i → i < size (w + k) → byte r i ≡ 0)
    → widened_record k (narrowed_record w r) ≡ r
widened-narrowed w k r e h =
    let l : length (drop (size w) r) ≡ 4 * k = length-drop (size w) r ∙ omega arith in
    let z : drop (size w) r ≡ replicate (4 * k) 0 =
    ext_get_or 0 (drop (size w) r) (replicate (4 * k) 0) (l ∙ sym (length-replicate {A = ℕ} (4 * k) 0))
    (λ i m. get_or-drop (size w) r i 0 ∙ h (size w + i) (omega arith) (omega arith) ∙ sym (get_or-replicate {A = ℕ} (4 * k) i 0 0 (omega arith))) in
    rw (← z) (take-append-drop (size w) r)

-- ---- bytes that are zero

zero-byte : (r : Record) (a e i : ℕ) → nonzero r a e ≡ false → a ≤ i → i < e → byte r i ≡ 0
unfolding nonzero
zero-byte r a e i f l h =
    let z : a + (i - a) ≡ i = omega arith in
    let g : byte (take (e - a) (drop a r)) (i - a) ≡ byte r i = get_or-take (e - a) (drop a r) (i - a) 0 (omega arith) ∙ get_or-drop a r (i - a) 0 ∙ ap (byte r) z in
    eqb-true (byte r i) 0 (not-false _ (rw g at (any_none (λ x. not (eqb x 0)) 0 refl (take (e - a) (drop a r)) f (i - a))))

zero-of-four : (r : Record) (j m : ℕ) → four r j ≡ 0 → m < 4 → byte r (j + m) ≡ 0
zero-of-four r j zero e h = let z : j + 0 ≡ j = omega arith in rw z (omega arith)
zero-of-four r j (suc zero) e h = omega arith
zero-of-four r j (suc (suc zero)) e h = omega arith
zero-of-four r j (suc (suc (suc zero))) e h = omega arith
zero-of-four r j (suc (suc (suc (suc m)))) e h = absurd (omega arith)

-- ---- the bytes above w. (Those of a limit and a deviation or of a speed and a date, 4 to 11, lie below where there is room for two
-- pollutants.)

module _ (w k : ℕ) (room : 2 ≤ w) where
  -- "8, measurement, also one not zero of an undeclared pollutant": an engine's, and a run-in value
  undeclared-zero : (ps : List Pollutant) (r : Record) → bad_measurement_lem (w + k) ps r ≡ false → above w ps ≡ false
      → (i : ℕ) → size w ≤ i → i < size (w + k) → byte r i ≡ 0
  unfolding bad_measurement_lem measurement
  undeclared-zero ps r m a i l h =
      let p : ℕ = i / 4 in
      let s : 4 * p + i % 4 ≡ i = omega arith in
      let b = none_of (bad_value_lem ps r) (w + k) m p (omega arith) (omega arith) in
      let z = eqb-true (four r (4 * p)) 0 (not-false _ (rw (undeclared-above w ps a p (omega arith)) at b)) in
      rw s at (zero-of-four r (4 * p) (i % 4) z (omega arith))

  pub zero-above : (before : List Record) (r : Record) → fault_of_lem (w + k) before r ≡ 0 → above w (declared before) ≡ false
      → (i : ℕ) → size w ≤ i → i < size (w + k) → byte r i ≡ 0
  unfolding unused
  zero-above before r f a i l h =
      let g = faultless (w + k) before r f in
      by_kind (kind r)
      (λ e. zero-byte r 12 (size (w + k)) i (or-false (nonzero r 3 4) (nonzero r 12 (size (w + k))) (simp or_same at (rw e at g.zeroed))).1 (omega arith) h)
      (λ e. undeclared-zero (declared before) r (g.measured (rw e refl)) a i l h)
      (λ e. zero-byte r 1 (size (w + k)) i (simp or_same at (rw e at g.zeroed)) (omega arith) h)
      (λ e.
      let z = or-false (nonzero r 1 2 || nonzero r 6 8) (nonzero r 12 (size (w + k))) (simp or_same at (rw e at g.zeroed)) in
      zero-byte r 12 (size (w + k)) i z.1 (omega arith) h)
      (λ e. undeclared-zero (declared before) r (g.measured (rw e refl)) a i l h)
      (λ n o. never (sym (ap not o) ∙ g.kinds))

  pub widened-again : (before rs : List Record) → Full (size (w + k)) rs → Clean (w + k) before rs → above w (declared before) ≡ false
      → above w (declared rs) ≡ false → map (widened_record k) (map (narrowed_record w) rs) ≡ rs
  widened-again before [] h c a o = refl
  widened-again before (r ∷ rs) h c a o =
      let u = above-cons w r rs o in
      let rest = widened-again (before ++ (r ∷ [])) rs h.1 c.1 (above-snoc w before r a u.0) u.1 in
      rw (widened-narrowed w k r h.0 (zero-above before r c.0 a), rest) refl
