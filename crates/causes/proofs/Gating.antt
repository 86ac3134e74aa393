-- The gate of plan 4, row by row, and that of the plans whose series end by their statistics alone.
use Rattle.arithmetic.proofs.Basics.{ℕ, suc, ◌+◌, ◌≤◌, ◌<◌, arith, add-one, ◌≡◌, refl, sym, ap, ◌∙◌, Bool, true, false, not, ◌&&◌, ◌||◌, cond, List, []}
use Rattle.arithmetic.proofs.Basics.{◌∷◌, ◌++◌, map, append-nil, leb, ltb, eqb, length, take, drop, length-append, take-append-drop, take_all}
use Rattle.arithmetic.proofs.Basics.{take-length, get_or, eqb-true, eqb-false, ne_eqb, leb-true, le-leb, le-ltb, or-true, or_same, and-true, and_right, and-never}
use Rattle.arithmetic.proofs.Basics.{by-test, never, not-ltb, any_append, any_snoc, map-append, those-append, any-those}
use mir.Val.{bool_byte}
use Rattle.rules.specs.Tools.{any, those}
use Rattle.rules.specs.Sheet.{Record, Pollutant, cause, is_pending}
use Rattle.rules.specs.Plans.{Plan, known_deviation_lem, unknown_deviation_lem, attributes, in_service_lem, corrected, last_row_lem}
use Rattle.rules.specs.Series as rules
use Rattle.accepted.specs.Sheets.{pollutants_in, engines_in, AcceptedSheet}
use Rattle.accepted.proofs.Causes.{has_cause}
use Rattle.accepted.proofs.Sheets.{is_in_service, rows_fit, caused}
use Rattle.plan.specs.declared.Plan as declared
use Rattle.plan.specs.declared.Plan.TheVariants as variant
use Rattle.plan.specs.Plan.{plan_is}
use Rattle.accepted.proofs.BeforeRows.{caused-cut, repeats_of, pending_of, referral_by, left_by, before_by, before-is}
use Rattle.columns.specs.Columns.{open_after, cause_after, held_after, referral_after, gate, closes}
use Rattle.columns.proofs.Gates.{gate-opens, gate-open, gate-ends}
use Rattle.causes.specs.Causes.{cause_in, equal_causes_lem, emitters_in, repeats_in, pending_in, repeats_by, before_in, gate_of_lem, in_service_gate_lem}
use Rattle.causes.proofs.Emitting.{those-not, those-next, count_next, closes-pick}

-- every plan of the program's but plan 4
pub not-in-service : (plan : declared.Plan) → (plan ≡ variant.InService → ⊥) → is_in_service (plan_is plan) ≡ false
not-in-service variant.KnownDeviation h = refl
not-in-service variant.UnknownDeviation h = refl
not-in-service variant.Attributes h = refl
not-in-service variant.InService h = absurd (h refl)
not-in-service variant.Corrected h = refl

no_length : {A : Type 0} (xs : List A) → length xs ≡ 0 → xs ≡ []
no_length [] e = refl
no_length (x ∷ xs) e = absurd (omega arith)

-- plans 1 to 3 and 5: what comes before a row's statistics ends no series
pub plain_before : (plan : Plan) → is_in_service plan ≡ false → (ps : List Pollutant) (k : ℕ) (first : List Record) → rules.plan_before plan ps k first ≡ rules.statistics
plain_before known_deviation_lem h ps k first = refl
plain_before unknown_deviation_lem h ps k first = refl
plain_before attributes h ps k first = refl
plain_before in_service_lem h ps k first = never h
plain_before corrected h ps k first = refl

pub plain-gate : (w : ℕ) (plan : Plan) (b : List ℕ) (n : ℕ) → ((k : ℕ) (first : List Record) → rules.plan_before plan (pollutants_in w b) k first ≡ rules.statistics)
    → open_after n ≡ gate_of_lem w plan b n
unfolding rules.before_row
plain-gate w plan b n h =
    sym (gate-open (before_in w plan b) n
    (λ k l. rw (h (suc k) (take (suc k) (engines_in w b))) (by-test (λ t. closes (cond t rules.early rules.statistics) ≡ false) (ltb (suc k) 3) (λ e. refl) (λ e. refl))))

-- ---- equal causes, with one engine more

-- one more cause in a list
repeats-snoc : (xs : List ℕ) (c : ℕ) → rules.repeats (xs ++ (c ∷ [])) ≡ rules.repeats xs || any (λ x. eqb x c) xs
repeats-snoc [] c = refl
repeats-snoc (x ∷ xs) c =
    rw (any_snoc (eqb x) xs c, repeats-snoc xs c)
    (by-test (λ t. (t || eqb x c) || (rules.repeats xs || any (λ y. eqb y c) xs) ≡ (t || rules.repeats xs) || (eqb x c || any (λ y. eqb y c) xs)) (any (eqb x) xs)
    (λ e. refl)
    (λ e. by-test (λ t. t || (rules.repeats xs || any (λ y. eqb y c) xs) ≡ rules.repeats xs || (t || any (λ y. eqb y c) xs)) (eqb x c)
    (λ f. sym (or-true (rules.repeats xs))) (λ f. refl)))

-- a known cause is only looked for among those that are known
any-known : (c : ℕ) → is_pending c ≡ false → (xs : List ℕ) → any (λ x. eqb x c) (rules.known xs) ≡ any (λ x. eqb x c) xs
any-known c h [] = refl
any-known c h (x ∷ xs) =
    by-test (λ t. any (λ y. eqb y c) (cond (not t) (x ∷ rules.known xs) (rules.known xs)) ≡ eqb x c || any (λ y. eqb y c) xs) (is_pending x)
    (λ e. rw (ne_eqb x c (λ z. never (sym (rw z at e) ∙ h))) (any-known c h xs)) (λ e. rw (any-known c h xs) refl)

-- a cause that is not 0 is only looked for where there is a cause
any-cause : (c : ℕ) → (c ≡ 0 → ⊥) → (es : List Record) → any (λ x. eqb x c) (map cause (those has_cause es)) ≡ any (λ r. eqb (cause r) c) es
any-cause c h [] = refl
any-cause c h (e ∷ es) =
    by-test (λ z. any (λ x. eqb x c) (map cause (cond (not z) (e ∷ those has_cause es) (those has_cause es))) ≡ eqb (cause e) c || any (λ r. eqb (cause r) c) es)
    (eqb (cause e) 0) (λ z. rw (ne_eqb (cause e) c (λ w. h (sym w ∙ eqb-true (cause e) 0 z))) (any-cause c h es)) (λ z. rw (any-cause c h es) refl)

module _ (w : ℕ) (b : List ℕ) (n : ℕ) (l : n < length (engines_in w b)) {z : ℕ} (ze : z ≡ cause_in w b n) where
  abbrev es : List Record
  es = engines_in w b

  pub equal_next : (c : ℕ) → equal_causes_lem w b (n + 1) c ≡ equal_causes_lem w b n c + bool_byte (eqb z c)
  equal_next c = rw (add-one n, ze) (count_next (λ x. eqb (cause x) c) es n [] l)

  -- the causes of the first n, and that of one engine more where it has one
  causes-next : map cause (emitters_in w b (suc n)) ≡ map cause (emitters_in w b n) ++ cond (not (eqb z 0)) (z ∷ []) []
  causes-next =
      rw (ze, those-next has_cause es n [] l, map-append cause (emitters_in w b n) (cond (has_cause (get_or es n [])) (get_or es n [] ∷ []) []))
      (by-test (λ t. map cause (emitters_in w b n) ++ map cause (cond t (get_or es n [] ∷ []) []) ≡ map cause (emitters_in w b n) ++ cond t (cause_in w b n ∷ []) [])
      (has_cause (get_or es n [])) (λ e. refl) (λ e. refl))

  pub pending_next : pending_in w b (suc n) ≡ pending_in w b n || is_pending z
  pending_next =
      rw (causes-next, any_append is_pending (map cause (emitters_in w b n)) (cond (not (eqb z 0)) (z ∷ []) []))
      (ap (λ t. pending_in w b n || t)
      (by-test (λ t. any is_pending (cond (not t) (z ∷ []) []) ≡ is_pending z) (eqb z 0) (λ e. rw (eqb-true z 0 e) refl) (λ e. or_same (is_pending z))))

  pub repeats-next : repeats_in w b (suc n) ≡ repeats_in w b n || repeats_by w b n z
  unfolding repeats_by
  repeats-next =
      let cs : List ℕ = map cause (emitters_in w b n) in
      rw (causes-next, those-append (λ c. not (is_pending c)) cs (cond (not (eqb z 0)) (z ∷ []) []))
      (by-test
      (λ t. rules.repeats (rules.known cs ++ rules.known (cond (not t) (z ∷ []) [])) ≡ rules.repeats (rules.known cs) || (not (t || is_pending z) && leb 1 (equal_causes_lem w b n z)))
      (eqb z 0) (λ e. rw (append-nil, or_same) refl)
      (λ e.
      by-test
      (λ t. rules.repeats (rules.known cs ++ cond (not t) (z ∷ []) []) ≡ rules.repeats (rules.known cs) || (not t && leb 1 (equal_causes_lem w b n z)))
      (is_pending z) (λ f. rw (append-nil, or_same) refl)
      (λ f.
      rw (
        repeats-snoc (rules.known cs) z,
        any-known z f cs,
        any-cause z (eqb-false z 0 e) (take n es),
        any-those (λ x. eqb (cause x) z) (take n es),
      ) refl)))

-- ---- the rows of plan 4

-- after n engines, all of whose rows may be looked at
pub record Gated (w : ℕ) (b : List ℕ) (engines n : ℕ) (repeated pending : Bool) : Type 0 where
  pub most : n ≤ engines
  pub free : in_service_gate_lem w b n ≡ open_after n
  pub repeats : repeated ≡ repeats_in w b n
  pub waits : pending ≡ pending_in w b n

module _ {w : ℕ} {b : List ℕ} {start engines : ℕ} (sheet : AcceptedSheet w b in_service_lem start) (all : engines ≡ length (engines_in w b)) where
  pub few-rows : engines ≤ last_row_lem in_service_lem
  few-rows = rw all (rows_fit sheet)

  before-row : (n : ℕ) → before_in w in_service_lem b n ≡ before_by n (take n (engines_in w b))
  before-row n =
      before-is (pollutants_in w b) n (take n (engines_in w b)) in_service_lem (caused-cut true (pollutants_in w b) n (engines_in w b) (caused sheet)).0

  closes-row : (n : ℕ) → closes (before_in w in_service_lem b n) ≡ leb 3 n && (repeats_in w b n || (pending_in w b n || referral_by n (take n (engines_in w b))))
  closes-row n =
      let first : List Record = take n (engines_in w b) in
      rw (before-row n, ← (not-ltb n 3)) (closes-pick (ltb n 3) (repeats_of first) (pending_of first) (referral_by n first) (left_by n first))

  -- those without a cause leave the gross emitters
  pub emitters-are : {k : ℕ} → k ≡ equal_causes_lem w b engines 0 → k + length (those has_cause (engines_in w b)) ≡ engines
  emitters-are ke = rw (ke, all, take-length (engines_in w b)) (those-not (λ r. eqb (cause r) 0) (engines_in w b))

  -- without one no row ends or holds the series
  pub no-emitters : length (those has_cause (engines_in w b)) ≡ 0 → open_after engines ≡ in_service_gate_lem w b engines
  no-emitters h = sym (gate-open (before_in w in_service_lem b) engines (λ n l. closed (suc n)))
    where
      none : (n : ℕ) → emitters_in w b n ≡ []
      none n =
          no_length _
          (omega (
            arith,
            length-append (emitters_in w b n) (those has_cause (drop n (engines_in w b))),
            ap length (sym (those-append has_cause (take n (engines_in w b)) (drop n (engines_in w b))) ∙ ap (those has_cause) (take-append-drop n (engines_in w b))),
          ))

      closed : (n : ℕ) → closes (before_in w in_service_lem b n) ≡ false
      closed n = rw (closes-row n, none n, and-never (eqb n 15)) (and-never (leb 3 n))

  pub gated-none : Gated w b engines 0 false false
  unfolding gate
  gated-none = record { most = omega arith; free = refl; repeats = refl; waits = refl }

  module _ {n : ℕ} {repeated pending : Bool} (g : Gated w b engines n repeated pending) (l : n < engines) {z : ℕ} (ze : z ≡ cause_in w b n)
      {x : Bool} (xe : x ≡ repeats_by w b n z) where
    inside : n < length (engines_in w b)
    inside = omega (arith, all)

    now-repeats : repeats_in w b (suc n) ≡ repeated || x
    now-repeats = rw (g.repeats, xe) (repeats-next w b n inside ze)

    now-waits : pending_in w b (suc n) ≡ pending || is_pending z
    now-waits = rw g.waits (pending_next w b n inside ze)

    pub cause-gate : leb 3 (n + 1) && (repeated || x) ≡ true → cause_after n ≡ in_service_gate_lem w b engines
    cause-gate e =
        let t = and-true (leb 3 (n + 1)) (repeated || x) e in
        let m = leb-true 3 (n + 1) t.0 in
        gate-ends (before_in w in_service_lem b) n engines l g.free rules.equal_cause
        (before-row (suc n) ∙ (rw (le-ltb (suc n) 3 (omega arith), now-repeats, t.1) refl)) (λ y. refl)

    module _ (e : leb 3 (n + 1) && (repeated || x) ≡ false) where
      none-repeated : leb 3 (n + 1) ≡ true → repeated || x ≡ false
      none-repeated = and_right (leb 3 (n + 1)) (repeated || x) e

      pub held-gate : leb 3 (n + 1) && (pending || is_pending z) ≡ true → held_after n ≡ in_service_gate_lem w b engines
      held-gate f =
          let t = and-true (leb 3 (n + 1)) (pending || is_pending z) f in
          let m = leb-true 3 (n + 1) t.0 in
          gate-ends (before_in w in_service_lem b) n engines l g.free rules.finding_pending
          (before-row (suc n) ∙ (rw (le-ltb (suc n) 3 (omega arith), now-repeats, none-repeated t.0, now-waits, t.1) refl)) (λ y. refl)

      module _ (f : leb 3 (n + 1) && (pending || is_pending z) ≡ false) {emitters : ℕ} (ee : emitters ≡ length (those has_cause (engines_in w b))) where
        none-waits : leb 3 (n + 1) ≡ true → pending || is_pending z ≡ false
        none-waits = and_right (leb 3 (n + 1)) (pending || is_pending z) f

        -- the last row has all the gross emitters
        refers : referral_by (suc n) (take (suc n) (engines_in w b)) ≡ eqb (n + 1) 15 && leb 2 emitters
        refers =
            rw (add-one n)
            (by-test (λ t. t && leb 2 (length (emitters_in w b (suc n))) ≡ t && leb 2 emitters) (eqb (suc n) 15)
            (λ t. let h = eqb-true (suc n) 15 t in rw (take_all (suc n) (engines_in w b) (omega (arith, few-rows, all)), ee) refl) (λ t. refl))

        pub referral-gate : eqb (n + 1) 15 && leb 2 emitters ≡ true → referral_after n ≡ in_service_gate_lem w b engines
        referral-gate h =
            let m = eqb-true (n + 1) 15 (and-true (eqb (n + 1) 15) (leb 2 emitters) h).0 in
            let r : leb 3 (n + 1) ≡ true = le-leb 3 (n + 1) (omega arith) in
            gate-ends (before_in w in_service_lem b) n engines l g.free rules.referral
            (before-row (suc n) ∙ (rw (le-ltb (suc n) 3 (omega arith), now-repeats, none-repeated r, now-waits, none-waits r, refers, h) refl)) (λ y. refl)

        pub gated-next : eqb (n + 1) 15 && leb 2 emitters ≡ false → Gated w b engines (n + 1) (repeated || x) (pending || is_pending z)
        gated-next h =
            rw (add-one n)
            (record {
              most = l;
              free = gate-opens (before_in w in_service_lem b) n g.free
                  (closes-row (suc n)
                  ∙ (rw (now-repeats, now-waits, refers, h, ← (add-one n))
                  (by-test (λ t. leb 3 (n + 1) ≡ t → t && ((repeated || x) || ((pending || is_pending z) || false)) ≡ false) (leb 3 (n + 1))
                  (λ t d. rw (none-repeated t, none-waits t) refl) (λ t d. refl) refl)));
              repeats = sym now-repeats;
              waits = sym now-waits;
            })

  pub gated-all : {n : ℕ} {repeated pending : Bool} → Gated w b engines n repeated pending → engines ≤ n → open_after engines ≡ in_service_gate_lem w b engines
  gated-all {n} g l = let m = g.most in let z : n ≡ engines = omega arith in rw z at (sym g.free)
