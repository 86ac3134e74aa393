-- The records of an accepted sheet with a finding entered: the one in the vehicle's place has no fault, and those behind it have none.
use Rattle.arithmetic.proofs.Basics.{ℕ, zero, suc, ◌+◌, ◌*◌, ◌≤◌, arith, ◌≡◌, refl, sym, ◌∙◌, Bool, true, false, not, List, [], ◌∷◌, ◌++◌, eqb, le-leb}
use Rattle.arithmetic.proofs.Basics.{and-true, any_part, any_snoc, any_last}
use Rattle.arithmetic.proofs.Pairs.{more, none, pairs-same, pairs-append}
use Rattle.rules.specs.Tools.{any, byte}
use Rattle.rules.specs.Sheet.{Record, Pollutant, numbers, engine_kind, kind, cause, measurement, of_kind, plan_number, declared, gross}
use Rattle.rules.specs.Plans.{in_service_lem, number_of}
use Rattle.rules.specs.Refusals.{bad_value_lem, bad_measurement_lem, bad_cause_lem, greatest_cause, nonzero, unused, faults, fault_of_lem}
use Rattle.accepted.proofs.Faultless.{Clean, clean-append, clean-join, faultless, is_other, no-pollutants}
use Rattle.accepted.proofs.SameKinds.{kind-misplaced, same-clean}
use Rattle.accepted.proofs.ByNumber.{InOrder, in_order, declared-other}
use Rattle.accepted.proofs.Causes.{cause-fine, declared-append, plan-append}
use Rattle.findings.proofs.Entry.{Found, found-kind}

-- ---- one record

-- a test that is the same of every number 1 or more
any-numbers : (f g : ℕ → Bool) (w : ℕ) → ((p : ℕ) → 1 ≤ p → f p ≡ g p) → any f (numbers w) ≡ any g (numbers w)
any-numbers f g zero h = refl
any-numbers f g (suc w) h = rw (any_snoc f (numbers w) (suc w), any_snoc g (numbers w) (suc w), any-numbers f g w h, h (suc w) (omega arith)) refl

module _ {v f : Record} (c : Found v f) where
  -- the bytes of a measurement stand behind the cause, the number of a pollutant being 1 or more
  same-measurement : (p : ℕ) → 1 ≤ p → measurement f p ≡ measurement v p
  unfolding measurement
  same-measurement p l =
      let o : (k : ℕ) → 4 ≤ k → byte f k ≡ byte v k = λ k h. c.rest k (λ z. omega arith) (λ z. omega arith) in
      rw (o (4 * p) (omega arith), o (4 * p + 1) (omega arith), o (4 * p + 2) (omega arith), o (4 * p + 3) (omega arith)) refl

  same-gross : (w m : ℕ) (ps : List Pollutant) → InOrder w m ps → gross ps f ≡ gross ps v
  unfolding gross
  same-gross w m [] h = refl
  same-gross w m (p ∷ ps) h = let l = h.0 in rw (same-measurement p.number (omega arith), same-gross w p.number ps h.5) refl

  -- "8, measurement"
  same-bad_measurement : (w : ℕ) (ps : List Pollutant) → bad_measurement_lem w ps f ≡ bad_measurement_lem w ps v
  unfolding bad_measurement_lem
  same-bad_measurement w ps = any-numbers (bad_value_lem ps f) (bad_value_lem ps v) w (λ p l. rw (same-measurement p l) refl)

  -- a pending cause is that of a gross emitter in plan 4
  emits : (n : ℕ) (ps : List Pollutant) → bad_cause_lem n ps v ≡ false → (eqb n (number_of in_service_lem) ≡ true) × (gross ps v ≡ true)
  emits n ps e = and-true (eqb n (number_of in_service_lem)) (gross ps v) (cause-fine n ps v e ∙ rw c.sought refl)

  -- "9, cause": which may be known as well as pending
  fine-cause : (n : ℕ) (ps : List Pollutant) → gross ps f ≡ gross ps v → bad_cause_lem n ps v ≡ false → bad_cause_lem n ps f ≡ false
  unfolding bad_cause_lem
  fine-cause n ps g e =
      let t = emits n ps e in
      rw (g, t.0, t.1, le-leb 1 (cause f) c.least, le-leb (cause f) greatest_cause c.most) refl

  -- "12, another byte that must be zero": an engine's is byte 1
  same-unused : (w : ℕ) → unused w f ≡ unused w v
  unfolding unused nonzero
  same-unused w =
      rw (
        found-kind c,
        c.engine,
        any_part (λ x. not (eqb x 0)) 0 refl 0 1 f,
        any_part (λ x. not (eqb x 0)) 0 refl 0 1 v,
        c.rest 1 (λ z. omega arith) (λ z. omega arith),
      ) refl

  fine : (w : ℕ) (before : List Record) → Clean w [] before → fault_of_lem w before v ≡ 0 → fault_of_lem w before f ≡ 0
  unfolding fault_of_lem faults
  fine w before b e =
      let g = faultless w before v e in
      let ps = declared before in
      let k : eqb (kind v) engine_kind ≡ true = rw c.engine refl in
      let s : kind f ≡ kind v = found-kind c ∙ sym c.engine in
      rw (
        kind-misplaced before f v s,
        g.placed,
        same-bad_measurement w ps,
        g.measured (rw c.engine refl),
        fine-cause (plan_number before) ps (same-gross w _ ps (in_order w [] before b)) (g.caused k),
        g.counted k,
        same-unused w,
        g.zeroed,
        found-kind c,
      ) refl

-- ---- the records of a sheet

module _ (w : ℕ) (us : List Record) {v f : Record} (ws : List Record) (c : Found v f) (clean : Clean w [] (us ++ (v ∷ ws))) where
  first : Clean w [] us
  first = (clean-append w [] us (v ∷ ws) clean).0

  own : fault_of_lem w us v ≡ 0
  own = (clean-append w [] us (v ∷ ws) clean).1.0

  rest : Clean w (us ++ (v ∷ [])) ws
  rest = (clean-append w [] us (v ∷ ws) clean).1.1

  -- plan and pollutants are those of the records before it
  pub same-plan : (ts : List Record) → plan_number (us ++ ts) ≡ plan_number us
  same-plan ts = plan-append us ts v (rw c.engine refl) (faultless w us v own).placed

  pub same-declared : (r : Record) → kind r ≡ engine_kind → declared (us ++ (r ∷ ws)) ≡ declared us
  unfolding of_kind
  same-declared r k =
      declared-append us (r ∷ ws) (rw k (no-pollutants w (us ++ (v ∷ [])) ws (any_last is_other us v (rw c.engine refl)) rest))

  pub found-clean : Clean w [] (us ++ (f ∷ ws))
  found-clean =
      let k = found-kind c in
      let s = pairs-append (pairs-same (λ r. refl) us) (more (c.engine ∙ sym k) none) in
      let p : plan_number (us ++ (v ∷ [])) ≡ plan_number (us ++ (f ∷ [])) = same-plan (v ∷ []) ∙ sym (same-plan (f ∷ [])) in
      let d : declared (us ++ (v ∷ [])) ≡ declared (us ++ (f ∷ [])) = declared-other us v (rw c.engine refl) ∙ sym (declared-other us f (rw k refl)) in
      clean-join w [] us (f ∷ ws) first (fine c w us first own, same-clean w s p d ws rest)

  -- it is a gross emitter in plan 4, before and after
  pub vehicle-gross : (eqb (plan_number us) (number_of in_service_lem) ≡ true) × (gross (declared us) v ≡ true)
  vehicle-gross = emits c (plan_number us) (declared us) ((faultless w us v own).caused (rw c.engine refl))

  pub found-gross : gross (declared us) f ≡ true
  found-gross = same-gross c w _ (declared us) (in_order w [] us first) ∙ vehicle-gross.1
