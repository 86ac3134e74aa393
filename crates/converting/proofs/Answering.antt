-- The converter's answer, in document 02's order.
use Rattle.arithmetic.proofs.Basics.{ℕ, ◌+◌, ◌*◌, ◌/◌, ◌≤◌, ◌<◌, arith, ◌≡◌, refl, sym, ap, ◌∙◌, ⊎_elim, Bool, true, false, not, ◌||◌, cond, List, [], ◌∷◌, ◌++◌, length, drop}
use Rattle.arithmetic.proofs.Basics.{eqb, ne_eqb, lt-ltb, le-ltb, or-false, or-true, not-true, lt-or-ge}
use Rattle.rules.specs.Sheet.{Pollutant, pollutants, more_pollutants, size, records, of_kind, declared}
use Rattle.rules.specs.Refusals.{Check, accepted, refused, check}
use Rattle.rules.specs.Sizes.{unknown_size}
use Rattle.rules.specs.Converter.{above, declares_above, room_for, convert, other_form, converted, added_pollutants}
use Rattle.accepted.specs.Sheets.{pollutants_in}
use Rattle.accepted.proofs.Records.{length-records}
use Rattle.accepted.proofs.Faultless.{sound}
use Rattle.accepted.proofs.ByNumber.{InOrder, in_order, limit_of_lem}
use Rattle.sizes.specs.Recast.{recast_record}
use Rattle.sizes.proofs.Columns.{own-above}
use Rattle.sizes.proofs.Mapped.{length-mapped, length-recast, widen-recast, narrow-recast}
use Rattle.sizes.proofs.Converting.{convert-wide, convert-narrow}
use Rattle.layout.specs.declared.Size.{Size}
use Rattle.layout.specs.declared.Size.TheVariants.{Twenty, TwentyEight}
use Rattle.layout.specs.Sizes.{width_is}
use Rattle.record.specs.Quantities.{quantity}
use Rattle.layout.proofs.Sizes.{width-range}
use Rattle.summary.specs.declared.Summary.{Summary}
use Rattle.checking.specs.Check.{Valid}
use Rattle.checking.proofs.Laws.{limits-are}
use Rattle.converting.specs.Recasting.{added_bytes_lem, recast}

-- ---- "a sheet that declares pollutant 5 or 6", by the limits that the check keeps

above-limits : (w m : ℕ) (ps : List Pollutant) → w ≤ more_pollutants → InOrder w m ps
    → above pollutants ps ≡ not (eqb (limit_of_lem 5 ps) 0) || not (eqb (limit_of_lem 6 ps) 0)
above-limits w m [] l h = refl
above-limits w m (c ∷ ps) l h =
    let some : not (eqb c.limit 0) ≡ true = rw (ne_eqb c.limit 0 (λ z. omega arith)) refl in
    ⊎_elim
    (λ k.
    rw (le-ltb 4 c.number (omega arith), ne_eqb c.number 5 (λ z. omega arith), ne_eqb c.number 6 (λ z. omega arith))
    (above-limits w c.number ps l h.5))
    (λ k.
    ⊎_elim (λ j. let q : c.number ≡ 5 = omega arith in rw (q, some) refl)
    (λ j. let q : c.number ≡ 6 = omega arith in rw (q, some) (sym (or-true (not (eqb (limit_of_lem 5 ps) 0))))) (lt-or-ge c.number 6))
    (lt-or-ge c.number 5)

declares-limits : (z : Size) (b : List ℕ) → check (width_is z) b ≡ accepted
    → above pollutants (pollutants_in (width_is z) b) ≡ not (eqb (limit_of_lem 5 (pollutants_in (width_is z) b)) 0) || not (eqb (limit_of_lem 6 (pollutants_in (width_is z) b)) 0)
unfolding declared of_kind
declares-limits z b e = above-limits (width_is z) 0 (pollutants_in (width_is z) b) (width-range z).1 (in_order (width_is z) [] (records (width_is z) b) (sound (width_is z) b e).clean)

-- the program's test of them
pub tested : (z : Size) (b : List ℕ) {said : Summary} → Valid z b said
    → not (eqb said.limits.fifth 0) || not (eqb said.limits.sixth 0) ≡ above pollutants (pollutants_in (width_is z) b)
unfolding quantity
tested z b v = sym (declares-limits z b v.accepts ∙ rw (← limits-are v 5, ← limits-are v 6) refl)

-- ---- both ways as one

module _ (b o : List ℕ) where
  abbrev answer : (s : ℕ) → Check
  answer s = convert pollutants added_pollutants s b o

  pub size-refused : (s : ℕ) → unknown_size s ≡ true → answer s ≡ refused 30 0
  unfolding convert
  size-refused s u =
      let n = or-false (eqb s (size pollutants)) (eqb s (size more_pollutants)) (not-true _ u) in
      rw (n.0, n.1) refl

  -- the sheet in the other size
  form-is : (z : Size) → other_form pollutants added_pollutants (size (width_is z)) b ≡ recast (width_is z) (added_bytes_lem z) b
  form-is Twenty = widen-recast pollutants added_pollutants b
  form-is TwentyEight = narrow-recast pollutants added_pollutants b

  converts : (z : Size) → check (width_is z) b ≡ accepted
      → answer (size (width_is z)) ≡ cond (above pollutants (pollutants_in (width_is z) b)) (refused 31 0) (room_for (recast (width_is z) (added_bytes_lem z) b) o)
  unfolding declares_above
  converts Twenty e = convert-wide pollutants added_pollutants b o ∙ (rw (e, own-above pollutants b e, form-is Twenty) refl)
  converts TwentyEight e = convert-narrow pollutants added_pollutants (omega arith) b o ∙ (rw (e, form-is TwentyEight) refl)

  refuses : (z : Size) {n p : ℕ} → check (width_is z) b ≡ refused n p → answer (size (width_is z)) ≡ refused n p
  refuses Twenty e = convert-wide pollutants added_pollutants b o ∙ (rw e refl)
  refuses TwentyEight e = convert-narrow pollutants added_pollutants (omega arith) b o ∙ (rw e refl)

  module _ {s : ℕ} (z : Size) (se : s ≡ size (width_is z)) where
    abbrev room : ℕ
    room = (20 + added_bytes_lem z) * (length b / size (width_is z))

    abbrev form : List ℕ
    form = recast (width_is z) (added_bytes_lem z) b

    form-length : length form ≡ room
    form-length =
        length-mapped (width_is z) (20 + added_bytes_lem z) (recast_record pollutants (added_bytes_lem z)) (length-recast (width_is z) pollutants (added_bytes_lem z) (width-range z).0) b
        ∙ ap (λ (n : ℕ). (20 + added_bytes_lem z) * n) (length-records (width_is z) b)

    pub sheet-refused : {n p : ℕ} → check (width_is z) b ≡ refused n p → answer s ≡ refused n p
    sheet-refused e = rw se (refuses z e)

    module _ {said : Summary} (v : Valid z b said) {t : Bool} (te : not (eqb said.limits.fifth 0) || not (eqb said.limits.sixth 0) ≡ t) where
      asked : answer s ≡ cond t (refused 31 0) (room_for form o)
      asked = rw (se, ← te, tested z b v) (converts z v.accepts)

      pub narrowing-refused : t ≡ true → answer s ≡ refused 31 0
      narrowing-refused a = asked ∙ (rw a refl)

      module _ (a : t ≡ false) where
        pub output-refused : length o < room → answer s ≡ refused 32 0
        output-refused h = asked ∙ (rw (a, lt-ltb (length o) (length form) (rw form-length h)) refl)

        pub carried : room ≤ length o → {l : List ℕ} → l ≡ form ++ drop (length form) o → (accepted ≡ answer s) × (l ≡ converted pollutants added_pollutants s b o)
        unfolding converted
        carried h q =
            let d : answer s ≡ accepted = asked ∙ (rw (a, le-ltb (length o) (length form) (rw form-length h)) refl) in
            (sym d, rw (d, se, form-is z) q)

-- ---- the zeros of a record are few

pub added-most : (z : Size) → added_bytes_lem z ≤ 8
added-most Twenty = omega arith
added-most TwentyEight = omega arith
