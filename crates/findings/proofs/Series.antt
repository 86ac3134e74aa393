-- Two series of the same vehicles but for one, a gross emitter whose finding is pending in the first and known in the second: up to it the
-- vehicles are the same, and a row with it fails both by equal causes, or holds the first.
use Rattle.arithmetic.proofs.Basics.{ℕ, zero, suc, ◌+◌, ◌-◌, arith, ◌≡◌, refl, sym, ap, ◌∙◌, ◌⊎◌, inl, inr, ⊎_elim, Bool, true, false, not, cond, List, [], ◌∷◌, ◌++◌}
use Rattle.arithmetic.proofs.Basics.{map, map-append, ltb, eqb, length, take, take-append-le, take-append-add, or_right, or-follows, by-test, lt-or-ge}
use Rattle.arithmetic.proofs.Basics.{any_append, any-more, those-append, those-without, those-with}
use Rattle.rules.specs.Tools.{any, those}
use Rattle.rules.specs.Sheet.{Record, Pollutant, cause, is_pending, gross}
use Rattle.rules.specs.Plans.{in_service_lem}
use Rattle.rules.specs.Series.{Standing, Series, ongoing, passed, failed, referred, held, Before, early, equal_cause, finding_pending, repeats, known}
use Rattle.rules.specs.Series.{in_service_before, before_row, row_by, walk, after, pairs, answer}
use Rattle.rules.specs.Demands.{Says}
use Rattle.findings.proofs.Entry.{Found, found-pending, found-known}

-- ---- before a row with the vehicle

-- two equal ones among numbers are so with one more
repeats-more : (cs : List ℕ) (d : ℕ) (ds : List ℕ) → repeats (cs ++ ds) ≡ true → repeats (cs ++ (d ∷ ds)) ≡ true
repeats-more [] d ds e = or_right (any (eqb d) ds) (repeats ds) e
repeats-more (c ∷ cs) d ds e =
    or-follows (any (eqb c) (cs ++ ds)) (repeats (cs ++ ds)) (any (eqb c) (cs ++ (d ∷ ds))) (repeats (cs ++ (d ∷ ds)))
    (any-more (eqb c) cs d ds) (repeats-more cs d ds) e

-- where equal causes of the first are equal in the second, and the first has one that is pending
choose : (a b a' : Bool) (x y : Before) → (a ≡ true → a' ≡ true) → b ≡ true
    → ((cond a equal_cause (cond b finding_pending x) ≡ equal_cause) × (cond a' equal_cause y ≡ equal_cause)) ⊎ (cond a equal_cause (cond b finding_pending x) ≡ finding_pending)
choose true b a' x y h p = inl (refl, rw (h refl) refl)
choose false b a' x y h p = inr (rw p refl)

module _ (ps : List Pollutant) (us : List Record) {v f : Record} (c : Found v f) (gv : gross ps v ≡ true) (gf : gross ps f ≡ true) where
  abbrev causes : List Record → List ℕ
  causes es = map cause (those (gross ps) es)

  causes-with : (r : Record) (ws : List Record) → gross ps r ≡ true → causes (us ++ (r ∷ ws)) ≡ causes us ++ (cause r ∷ causes ws)
  causes-with r ws g = ap (map cause) (those-with (gross ps) us r ws g) ∙ map-append cause (those (gross ps) us) (r ∷ those (gross ps) ws)

  -- equal known causes stay
  still-equal : (ws : List Record) → repeats (known (causes (us ++ (v ∷ ws)))) ≡ true → repeats (known (causes (us ++ (f ∷ ws)))) ≡ true
  still-equal ws e =
      let is_known : ℕ → Bool = λ d. not (is_pending d) in
      let k : known (causes (us ++ (v ∷ ws))) ≡ known (causes us) ++ known (causes ws) =
      ap known (causes-with v ws gv) ∙ those-without is_known (causes us) (cause v) (causes ws) (rw (found-pending c) refl) ∙ those-append is_known (causes us) (causes ws) in
      let l : known (causes (us ++ (f ∷ ws))) ≡ known (causes us) ++ (cause f ∷ known (causes ws)) =
      ap known (causes-with f ws gf) ∙ those-with is_known (causes us) (cause f) (causes ws) (rw (found-known c) refl) in
      rw l (repeats-more (known (causes us)) (cause f) (known (causes ws)) (rw k at e))

  any-pending : (ws : List Record) → any is_pending (causes (us ++ (v ∷ ws))) ≡ true
  any-pending ws = rw (causes-with v ws gv, any_append is_pending (causes us) (cause v ∷ causes ws)) (or_right (any is_pending (causes us)) _ (rw (found-pending c) refl))

  before-with : (n : ℕ) (ws : List Record)
      → ((in_service_before ps n (us ++ (v ∷ ws)) ≡ equal_cause) × (in_service_before ps n (us ++ (f ∷ ws)) ≡ equal_cause))
      ⊎ (in_service_before ps n (us ++ (v ∷ ws)) ≡ finding_pending)
  unfolding in_service_before
  before-with n ws = choose _ _ _ _ _ (still-equal ws) (any-pending ws)

-- ---- the walk

-- the same series, or the first is held
abbrev Kept : (s t : Series) → Type 0
Kept s t = (t ≡ s) ⊎ ((m : ℕ) × (ss : List Standing) × (s ≡ held m ss))

module _ (ps : List Pollutant) (vs : List Record) (q : ℕ) (us : List Record) {v f : Record} (ws : List Record) (c : Found v f)
    (gv : gross ps v ≡ true) (gf : gross ps f ≡ true) where
  abbrev es : List Record
  es = us ++ (v ∷ ws)

  abbrev fs : List Record
  fs = us ++ (f ∷ ws)

  -- the first n are the same, or have it among them
  taken : (n : ℕ) → (take n fs ≡ take n es) ⊎ ((k : ℕ) × (take n es ≡ us ++ (v ∷ take k ws)) × (take n fs ≡ us ++ (f ∷ take k ws)))
  taken n =
      ⊎_elim
      (λ h.
      let k : ℕ = n - suc (length us) in
      let m : n ≡ length us + suc k = omega arith in
      let t : (r : Record) → take n (us ++ (r ∷ ws)) ≡ us ++ (r ∷ take k ws) =
      λ r. ap (λ (i : ℕ). take i (us ++ (r ∷ ws))) m ∙ take-append-add us (r ∷ ws) (suc k) in
      inr (k, t v, t f))
      (λ h. inl (take-append-le n us (f ∷ ws) h ∙ sym (take-append-le n us (v ∷ ws) h)))
      (lt-or-ge (length us) n)

  row_kept : (n : ℕ) (ss : List Standing) → Kept (walk in_service_lem ps vs q n (take n es) (ongoing ss)) (walk in_service_lem ps vs q n (take n fs) (ongoing ss))
  unfolding before_row
  row_kept n ss =
      ⊎_elim (λ e. rw e (inl refl))
      (λ t.
      rw (t.1, t.2)
      (by-test
      (λ b.
      Kept (row_by (cond b early (in_service_before ps n (us ++ (v ∷ take t.0 ws)))) in_service_lem vs q n (us ++ (v ∷ take t.0 ws)) ss)
      (row_by (cond b early (in_service_before ps n (us ++ (f ∷ take t.0 ws)))) in_service_lem vs q n (us ++ (f ∷ take t.0 ws)) ss))
      (ltb n 3) (λ h. inl refl)
      (λ h. ⊎_elim (λ e. rw (e.0, e.1) (inl refl)) (λ e. rw e (inr (n, ss, refl))) (before-with ps us c gv gf n (take t.0 ws)))))
      (taken n)

  walk_kept : (n : ℕ) (s t : Series) → Kept s t → Kept (walk in_service_lem ps vs q n (take n es) s) (walk in_service_lem ps vs q n (take n fs) t)
  walk_kept n (ongoing ss) t (inl e) = rw e (row_kept n ss)
  walk_kept n (passed m ss) t (inl e) = rw e (inl refl)
  walk_kept n (failed m grounds ss) t (inl e) = rw e (inl refl)
  walk_kept n (referred m ss) t (inl e) = rw e (inl refl)
  walk_kept n (held m ss) t (inl e) = rw e (inl refl)
  walk_kept n s t (inr h) = rw h.2 (inr (h.0, h.1, refl))

  pub after_kept : (n : ℕ) → Kept (after in_service_lem ps vs q es n) (after in_service_lem ps vs q fs n)
  unfolding after
  after_kept zero = inl refl
  after_kept (suc n) = walk_kept (suc n) (after in_service_lem ps vs q es n) (after in_service_lem ps vs q fs n) (after_kept n)

-- ---- the answer

pub answer-kept : (w : ℕ) (stop : Bool) (n : ℕ) (s t : Series) → Kept s t → ((m : ℕ) → Says (answer w stop n s) 4 m → ⊥) → answer w stop n t ≡ answer w stop n s
answer-kept w stop n s t (inl e) h = ap (answer w stop n) e
answer-kept w stop n s t (inr k) h = absurd (h k.0 (5, pairs w k.1, rw k.2 refl))
