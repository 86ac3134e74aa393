-- Records of one length and their joined bytes: the one gives the other back.
use Rattle.arithmetic.proofs.Basics.{ℕ, zero, suc, ◌+◌, ◌*◌, ◌/◌, ◌%◌, ◌≤◌, mul-zero, mul-suc, mul-div-le, mul-div_cancel_left, mul-mod_right, arith, ◌≡◌, refl, sym}
use Rattle.arithmetic.proofs.Basics.{ap, ◌∙◌, List, [], ◌∷◌, map, length, take, drop, length-append, length-drop, length-take-le, take-append-drop, take-append-add}
use Rattle.arithmetic.proofs.Basics.{take_at, drop_at, take-nil}
use Rattle.rules.specs.Sheet.{Record, size, cut, records}
use Rattle.rules.specs.Converter.{joined_bytes}
use Rattle.accepted.proofs.Records.{whole-records}

-- each of the records has s bytes
abbrev pub Full : (s : ℕ) → List Record → Type 0
Full s [] = Unit {0}
Full s (r ∷ rs) = (length r ≡ s) × Full s rs

pub full-map : (s t : ℕ) (f : Record → Record) → ((r : Record) → length r ≡ s → length (f r) ≡ t) → (rs : List Record) → Full s rs → Full t (map f rs)
full-map s t f g [] h = tt
full-map s t f g (r ∷ rs) h = (g r h.0, full-map s t f g rs h.1)

module _ (s : ℕ) where
  pub map-full : (f g : Record → Record) → ((r : Record) → length r ≡ s → f r ≡ g r) → (rs : List Record) → Full s rs → map f rs ≡ map g rs
  map-full f g i [] h = refl
  map-full f g i (r ∷ rs) h = rw (i r h.0, map-full f g i rs h.1) refl

  pub length-joined : (rs : List Record) → Full s rs → length (joined_bytes rs) ≡ s * length rs
  length-joined [] h = sym (mul-zero s)
  length-joined (r ∷ rs) h = omega (arith, length-append r (joined_bytes rs), h.0, length-joined rs h.1, mul-suc s (length rs))

  cut-joined : (rs : List Record) → Full s rs → cut s (length rs) (joined_bytes rs) ≡ rs
  unfolding cut
  cut-joined [] h = refl
  cut-joined (r ∷ rs) h = rw (take_at r (joined_bytes rs) s h.0, drop_at r (joined_bytes rs) s h.0, cut-joined rs h.1) refl

  full-cut : (n : ℕ) (b : List ℕ) → s * n ≤ length b → Full s (cut s n b)
  unfolding cut
  full-cut zero b h = tt
  full-cut (suc n) b h =
      (length-take-le s b (omega (arith, mul-suc s n)), full-cut n (drop s b) (rw length-drop (omega (arith, mul-suc s n))))

  joined-cut : (n : ℕ) (b : List ℕ) → length b ≡ s * n → joined_bytes (cut s n b) ≡ b
  unfolding cut
  joined-cut zero [] h = refl
  joined-cut zero (x ∷ b) h = absurd (omega (arith, mul-zero s))
  joined-cut (suc n) b h = rw (joined-cut n (drop s b) (rw length-drop (omega (arith, mul-suc s n)))) (take-append-drop s b)

  -- the first m records are the first s × m bytes
  pub take-joined : (m : ℕ) (rs : List Record) → Full s rs → take (s * m) (joined_bytes rs) ≡ joined_bytes (take m rs)
  take-joined zero rs h = rw (mul-zero s) refl
  take-joined (suc m) [] h = take-nil (s * suc m)
  take-joined (suc m) (r ∷ rs) h =
      let e : s * suc m ≡ length r + s * m = omega (arith, h.0, mul-suc s m) in
      rw (e, take-append-add r (joined_bytes rs) (s * m), take-joined m rs h.1) refl

  pub full-take : (m : ℕ) (rs : List Record) → Full s rs → Full s (take m rs)
  full-take zero rs h = tt
  full-take (suc m) [] h = tt
  full-take (suc m) (r ∷ rs) h = (h.0, full-take m rs h.1)

-- ---- the records of a sheet

module _ (w : ℕ) where
  pub full-records : (b : List ℕ) → Full (size w) (records w b)
  unfolding records
  full-records b = full-cut (size w) (length b / size w) b (mul-div-le (length b) (size w))

  pub joined-whole : (rs : List Record) → Full (size w) rs → length (joined_bytes rs) % size w ≡ 0
  joined-whole rs h = rw (length-joined (size w) rs h) (mul-mod_right (size w) (length rs))

  pub records-joined : (rs : List Record) → Full (size w) rs → records w (joined_bytes rs) ≡ rs
  unfolding records
  records-joined rs h =
      let e : length (joined_bytes rs) / size w ≡ length rs = rw (length-joined (size w) rs h) (mul-div_cancel_left (length rs) (omega arith)) in
      rw e (cut-joined (size w) rs h)

  pub joined-records : (b : List ℕ) → length b % size w ≡ 0 → joined_bytes (records w b) ≡ b
  unfolding records
  joined-records b h = joined-cut (size w) (length b / size w) b (whole-records (size w) (length b) h)

  -- the records of the first bytes of a sheet
  pub records-take : (m : ℕ) (b : List ℕ) → length b % size w ≡ 0 → records w (take (size w * m) b) ≡ take m (records w b)
  records-take m b h =
      ap (λ (x : List ℕ). records w (take (size w * m) x)) (sym (joined-records b h))
      ∙ ap (records w) (take-joined (size w) m (records w b) (full-records b))
      ∙ records-joined (take m (records w b)) (full-take (size w) m (records w b) (full-records b))
