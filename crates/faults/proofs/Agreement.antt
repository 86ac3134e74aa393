-- What the program keeps of the records before one is enough: the refusal by it is document 01's, which looks back at their list.
use Rattle.arithmetic.proofs.Basics.{ℕ, ◌+◌, ◌≤◌, arith, ◌≡◌, refl, sym, ap, ◌∙◌, Bool, true, false, not, ◌&&◌, ◌||◌, cond, List, [], ◌∷◌, ◌++◌, leb, ltb, eqb}
use Rattle.arithmetic.proofs.Basics.{length, length-append, length-map, eqb-true, eqb-false, ne_eqb, eq-eqb, not-false, lt-ltb, never, or-false, or_same, or_swap, or-true}
use Rattle.arithmetic.proofs.Basics.{and_right, by-test, any_snoc, any-or, any_last, any-implies, ltb-true, ltb-false, those-append}
use Rattle.rules.specs.Tools.{any, those, within}
use Rattle.rules.specs.Sheet.{Record, pollutant_kind, engine_kind, stop_kind, small_engine_kind, run_in_kind, measures, kind, number, plan, limit, of_kind, heading, engines, stopped, plan_number}
use Rattle.rules.specs.Sheet.{run_ins, pollutant, declared, cause}
use Rattle.rules.specs.Plans.{Plan, known_deviation_lem, unknown_deviation_lem, attributes, in_service_lem, corrected, plan_of, last_row_lem, plan_count, number_of}
use Rattle.rules.specs.Refusals.{is_kind, misplaced, last_kind, bad_small_engine, bad_run_in, newest, bad_number, bad_plan, bad_limit, bad_deviation, bad_measurement_lem, bad_cause_lem, too_many, unused, Fault, fault, first, faults, fault_of_lem}
use Rattle.accepted.proofs.Faultless.{Clean, clean-join, Faultless, faultless, by_kind, is_other, is_measured, of_kind-none, last-kind, placed-so, small-engine-behind}
use Rattle.accepted.proofs.Causes.{plan-append}
use Rattle.accepted.proofs.Engines.{heading-parts, counts}
use Rattle.accepted.proofs.ByNumber.{limit_of_lem, InOrder, in_order, declared-one, declared-other, newest-snoc, limit-most}
use Rattle.layout.specs.declared.Size.{Size}
use Rattle.layout.specs.Sizes.{width_is}
use Rattle.record.specs.Quantities.{quantity}
use Rattle.pollutants.specs.Each.{with_lem}
use Rattle.layout.proofs.Sizes.{width-range}
use Rattle.summary.specs.declared.Summary.{Summary}
use Rattle.summary.specs.State.{nothing, summary_with, misplaces_others_lem, misplaces_run_in_lem, LimitRange, Limits}
use Rattle.zeros.specs.Zeros.{unused_from_twelve_lem}
use Rattle.measurements.specs.Measurements.{bad_measurement_by, bad_behind_lem}
use Rattle.small_engines.specs.SmallEngines.{bad_small_engine_by, small_engine_fault_lem}
use Rattle.gross_emitters.specs.GrossEmitters.{bad_cause_by}
use Rattle.declarations.specs.Declarations.{pollutant_by_lem, pollutant_fault_lem}
use Rattle.faults.specs.Faults.{engine_fault_lem, as_twelve, run_in_fault, stop_fault_lem, unmeasured_fault_lem, fault_by}
use Rattle.zeros.proofs.ZeroBytes.{pollutant-unused, engine-unused, stop-unused, small-engine-unused, run-in-unused}
use Rattle.faults.proofs.Declared.{zero-quantity, quantity-with, order-last, limit-snoc, measurement-agrees, particulate-agrees, gross-agrees}

abbrev pub is_empty : List Record → Bool
is_empty [] = true
is_empty (r ∷ rs) = false

-- the records before, of the size z, have no fault, and the summary s says of them what is asked of them
pub record Agrees (z : Size) (before : List Record) (s : Summary) : Type 0 where
  pub clean : Clean (width_is z) [] before
  pub kind_is : s.kind ≡ last_kind before
  pub empty_is : eqb s.kind 0 ≡ is_empty before
  pub other_is : ltb pollutant_kind s.kind ≡ any is_other before
  pub stopped_is : eqb s.kind stop_kind ≡ stopped before
  pub measured_is : stopped before ≡ false → measures s.kind ≡ any is_measured before
  pub plan_is : s.plan ≡ plan_number before
  pub last_row_is : eqb s.kind 0 ≡ false → s.last_row ≡ last_row_lem (plan_of s.plan)
  pub number_is : s.number ≡ newest (declared before)
  pub limit_is : (p : ℕ) → quantity s.limits p ≡ limit_of_lem p (declared before)
  pub pollutants_is : s.pollutants ≡ length (declared before)
  pub head_is : s.head ≡ length (heading before)
  pub engines_is : s.engines ≡ length (engines before)

pub start : (z : Size) → Agrees z [] nothing
unfolding plan_number plan declared of_kind heading plan_of
start z =
    record {
      clean = tt;
      kind_is = refl;
      empty_is = refl;
      other_is = refl;
      stopped_is = refl;
      measured_is = λ e. refl;
      plan_is = refl;
      last_row_is = λ e. never e;
      number_is = refl;
      limit_is = zero-quantity;
      pollutants_is = refl;
      head_is = refl;
      engines_is = refl;
    }

-- ---- each test that looks back

-- 3, of another kind than a pollutant
misplaced-agrees : {z : Size} (before : List Record) (s : Summary) → Agrees z before s → (r : Record) → eqb (kind r) pollutant_kind ≡ false
    → misplaces_others_lem s ≡ misplaced before r
unfolding misplaced
misplaced-agrees [] s a r e = rw (a.empty_is, e) refl
misplaced-agrees (b ∷ before) s a r e = rw (a.empty_is, a.stopped_is, e) refl

-- 3, of a pollutant: a stop is another kind too
late-agrees : {z : Size} (before : List Record) (s : Summary) → Agrees z before s → (r : Record) → eqb (kind r) pollutant_kind ≡ true
    → ltb pollutant_kind s.kind ≡ misplaced before r
unfolding misplaced
late-agrees [] s a r e = rw (a.other_is, e) refl
late-agrees (b ∷ before) s a r e = stop-too s.kind ∙ rw (a.other_is, a.stopped_is, e) refl
  where
    stop-too : (k : ℕ) → ltb pollutant_kind k ≡ ltb pollutant_kind k || eqb k stop_kind
    stop-too k =
        by-test (λ t. ltb pollutant_kind k ≡ ltb pollutant_kind k || t) (eqb k stop_kind) (λ q. rw (eqb-true k stop_kind q) refl)
        (λ q. sym (or_same (ltb pollutant_kind k)))

-- 16: a small engine before is of another kind than a pollutant, and then so is the last record
small-agrees : {z : Size} (before : List Record) (s : Summary) → Agrees z before s → bad_small_engine_by s ≡ bad_small_engine before
unfolding bad_small_engine
small-agrees before s a =
    let is_small : Record → Bool = λ b. eqb (kind b) small_engine_kind in
    rw (← a.kind_is, ← a.plan_is)
    (by-test (λ t. bad_small_engine_by s ≡ t || not (eqb s.kind pollutant_kind) || eqb s.plan (number_of in_service_lem)) (any is_small before)
    (λ e.
    let o = any-implies is_small is_other (λ b q. rw (eqb-true (kind b) small_engine_kind q) refl) before e in
    let l = ltb-true pollutant_kind s.kind (a.other_is ∙ o) in
    rw (ne_eqb s.kind pollutant_kind (λ z. omega arith)) refl)
    (λ e. refl))

-- 19: where there is no stop, the last record is an engine or run-in values if any record is
run-in-agrees : {z : Size} (before : List Record) (s : Summary) → Agrees z before s → stopped before ≡ false → misplaces_run_in_lem s ≡ bad_run_in before
unfolding bad_run_in
run-in-agrees before s a e =
    let is_engine : Record → Bool = λ b. eqb (kind b) engine_kind in
    let is_run_in : Record → Bool = λ b. eqb (kind b) run_in_kind in
    rw (← a.plan_is)
    (ap (λ (t : Bool). t || eqb s.plan (number_of in_service_lem))
    (or_swap (eqb s.kind run_in_kind) (eqb s.kind engine_kind) ∙ a.measured_is e ∙ any-or is_engine is_run_in before ∙ or_swap (any is_engine before) (any is_run_in before)))

plan-agrees : {z : Size} (before : List Record) (s : Summary) → Agrees z before s → (r : Record)
    → not (within 1 plan_count (plan r)) || not (eqb s.kind 0) && not (eqb (plan r) s.plan) ≡ bad_plan before r
unfolding bad_plan
plan-agrees [] s a r = rw a.empty_is (or_same (not (within 1 plan_count (plan r))))
plan-agrees (b ∷ before) s a r = rw (a.empty_is, a.plan_is) refl

both-bad : (a b : Bool) (n x : ℕ) → cond a n (cond b n x) ≡ cond (a || b) n x
both-bad true b n x = refl
both-bad false b n x = refl

-- an engine's refusals as those of run-in values
as-run-in : (a b c d : Bool) → as_twelve (cond a 8 (cond b 8 (cond c 9 (cond d 12 0)))) ≡ cond (a || b) 8 (cond (d || c) 12 0)
as-run-in true b c d = refl
as-run-in false true c d = refl
as-run-in false false true true = refl
as-run-in false false true false = refl
as-run-in false false false true = refl
as-run-in false false false false = refl

some-rows : (plan : Plan) → leb (last_row_lem plan) 0 ≡ false
some-rows known_deviation_lem = refl
some-rows unknown_deviation_lem = refl
some-rows attributes = refl
some-rows in_service_lem = refl
some-rows corrected = refl

either : (t x y : Bool) → t && x || not t && y ≡ cond t x y
either true x y = or_same x
either false x y = refl

-- ---- the first of them

first-fault : (n : ℕ) (b : Bool) (fs : List Fault) → first (fault n b ∷ fs) ≡ cond b n (first fs)
first-fault n true fs = refl
first-fault n false fs = refl

not_first : (before : List Record) (r : Record) → misplaced before r ≡ false → eqb (kind r) pollutant_kind ≡ false → is_empty before ≡ false
unfolding misplaced
not_first [] r e h = never (sym (ap not h) ∙ e)
not_first (b ∷ before) r e h = refl

module _ {z : Size} {before : List Record} {s : Summary} (a : Agrees z before s) where
  order : InOrder (width_is z) 0 (declared before)
  unfolding declared of_kind
  order = in_order (width_is z) [] before a.clean

  -- the limits are in range, and no count is above the number of records
  pub limits-fit : Limits s.limits
  unfolding quantity
  limits-fit = record { co = fits 1; hc = fits 2; nox = fits 3; pm = fits 4; fifth = fits 5; sixth = fits 6 }
    where
      fits : (p : ℕ) → LimitRange (quantity s.limits p)
      fits p = record { most = rw (a.limit_is p) (limit-most (width_is z) 0 (declared before) order p) }

  pub counts-fit : (s.pollutants ≤ s.head) × (s.head + s.engines ≤ length before)
  unfolding declared
  counts-fit =
      let ps : List Record = of_kind pollutant_kind before in
      let parts = ap length (heading-parts (width_is z) [] before a.clean) ∙ length-append ps (of_kind small_engine_kind before ++ run_ins before) in
      (omega (arith, a.pollutants_is, length-map ps pollutant, a.head_is, parts), omega (arith, a.head_is, a.engines_is, counts (width_is z) before a.clean))

  module _ (r : Record) where
    pollutant-agrees : kind r ≡ pollutant_kind → pollutant_fault_lem z s r (unused_from_twelve_lem z r) ≡ fault_of_lem (width_is z) before r
    unfolding pollutant_fault_lem pollutant_by_lem fault_of_lem faults bad_number bad_limit bad_deviation
    pollutant-agrees k =
        rw (late-agrees before s a r (eq-eqb (kind r) pollutant_kind k), a.number_is, plan-agrees before s a r, either, pollutant-unused r z k, k)
        (simp first-fault)

    cause-agrees : bad_cause_by z s r ≡ bad_cause_lem (plan_number before) (declared before) r
    unfolding bad_cause_by bad_cause_lem
    cause-agrees = rw (a.plan_is, gross-agrees (declared before) s.limits a.limit_is r z order) refl

    engine-agrees : kind r ≡ engine_kind → engine_fault_lem z s r ≡ fault_of_lem (width_is z) before r
    unfolding engine_fault_lem fault_of_lem faults too_many
    engine-agrees k =
        let other : eqb (kind r) pollutant_kind ≡ false = rw k refl in
        by-test (λ t. engine_fault_lem z s r ≡ fault_of_lem (width_is z) before r) (misplaced before r)
        (λ e. rw (misplaced-agrees before s a r other, e, k) refl)
        (λ e.
        rw (
          misplaced-agrees before s a r other,
          both-bad (bad_measurement_by s.limits r) (bad_behind_lem z s.limits r) 8 _,
          measurement-agrees (declared before) s.limits a.limit_is r z order,
          cause-agrees,
          a.last_row_is (a.empty_is ∙ not_first before r e other),
          a.plan_is,
          a.engines_is,
          engine-unused r (width_is z) k,
          k,
        )
        (simp first-fault))

    stop-agrees : kind r ≡ stop_kind → stop_fault_lem s r (unused_from_twelve_lem z r) ≡ fault_of_lem (width_is z) before r
    unfolding stop_fault_lem fault_of_lem faults
    stop-agrees k =
        let other : eqb (kind r) pollutant_kind ≡ false = rw k refl in
        rw (misplaced-agrees before s a r other, a.plan_is, stop-unused r z k, k) (simp first-fault)

    small-engine-agrees : kind r ≡ small_engine_kind → small_engine_fault_lem s r (unused_from_twelve_lem z r) ≡ fault_of_lem (width_is z) before r
    unfolding small_engine_fault_lem fault_of_lem faults
    small-engine-agrees k =
        let other : eqb (kind r) pollutant_kind ≡ false = rw k refl in
        rw (
          misplaced-agrees before s a r other,
          small-agrees before s a,
          particulate-agrees (declared before) s.limits a.limit_is r z order,
          small-engine-unused r z k,
          k,
        )
        (simp first-fault)

    -- run-in values are not in plan 4, and no engine stands before them: of an engine's refusals 9 asks bytes 2 and 3, and 10 nothing
    run-in-said : kind r ≡ run_in_kind → misplaced before r ≡ false → bad_run_in before ≡ false
        → as_twelve (engine_fault_lem z s r) ≡ cond (bad_measurement_lem (width_is z) (declared before) r) 8 (cond (unused (width_is z) r) 12 0)
    unfolding engine_fault_lem bad_run_in bad_cause_by cause
    run-in-said k e h =
        let other : eqb (kind r) pollutant_kind ≡ false = rw k refl in
        let p = or-false _ (eqb (plan_number before) (number_of in_service_lem)) h in
        let none = of_kind-none engine_kind before (or-false (any (λ b. eqb (kind b) run_in_kind) before) _ p.0).1 in
        rw (
          misplaced-agrees before s a r other ∙ e,
          a.last_row_is (a.empty_is ∙ not_first before r e other),
          a.plan_is,
          p.1,
          a.engines_is,
          none,
          some-rows (plan_of (plan_number before)),
          as-run-in,
          measurement-agrees (declared before) s.limits a.limit_is r z order,
          run-in-unused r (width_is z) k,
        ) refl

    engine-misplaced : eqb (kind r) pollutant_kind ≡ false → misplaced before r ≡ true → engine_fault_lem z s r ≡ 3
    unfolding engine_fault_lem
    engine-misplaced other e = rw (misplaced-agrees before s a r other, e) refl

    run-in-fault-agrees : kind r ≡ run_in_kind → run_in_fault z s r ≡ fault_of_lem (width_is z) before r
    unfolding run_in_fault fault_of_lem faults
    run-in-fault-agrees k =
        let other : eqb (kind r) pollutant_kind ≡ false = rw k refl in
        by-test (λ t. run_in_fault z s r ≡ fault_of_lem (width_is z) before r) (misplaced before r)
        (λ e. rw (misplaced-agrees before s a r other, e, engine-misplaced other e, k) refl)
        (λ e.
        by-test (λ t. run_in_fault z s r ≡ fault_of_lem (width_is z) before r) (bad_run_in before)
        (λ h. rw (misplaced-agrees before s a r other, run-in-agrees before s a (placed-so before r e).1, e, h, k) refl)
        (λ h. rw (misplaced-agrees before s a r other, run-in-agrees before s a (placed-so before r e).1, e, h, run-in-said k e h, k) (simp first-fault)))

    no_kind : is_kind (kind r) ≡ false → 2 ≡ fault_of_lem (width_is z) before r
    unfolding fault_of_lem faults
    no_kind w = rw w refl

    pub fault-agrees : fault_by z s r ≡ fault_of_lem (width_is z) before r
    unfolding fault_by unmeasured_fault_lem
    fault-agrees =
        by_kind (kind r) (λ k. rw k (pollutant-agrees k)) (λ k. rw k (engine-agrees k)) (λ k. rw k (stop-agrees k)) (λ k. rw k (small-engine-agrees k))
        (λ k. rw k (run-in-fault-agrees k))
        (λ n w. rw (n pollutant_kind refl, n engine_kind refl, n stop_kind refl, n small_engine_kind refl, n run_in_kind refl) (no_kind w))

-- ---- one record more, which has no fault

empty-more : (before : List Record) (r : Record) → is_empty (before ++ (r ∷ [])) ≡ false
empty-more [] r = refl
empty-more (b ∷ before) r = refl

count-more : (test : Record → Bool) (before : List Record) (r : Record)
    → length (those test (before ++ (r ∷ []))) ≡ cond (test r) (length (those test before) + 1) (length (those test before))
count-more test before r =
    rw (those-append test before (r ∷ []), length-append)
    (by-test (λ t. length (those test before) + length (cond t (r ∷ []) []) ≡ cond t (length (those test before) + 1) (length (those test before)))
    (test r) (λ e. refl) (λ e. omega arith))

plan-one : (before : List Record) (r : Record) → bad_plan before r ≡ false → plan r ≡ plan_number (before ++ (r ∷ []))
unfolding bad_plan plan_number
plan-one [] r e = refl
plan-one (b ∷ before) r e = eqb-true (plan r) (plan b) (not-false (eqb (plan r) (plan b)) (or-false (not (within 1 plan_count (plan r))) _ e).1)

module _ {z : Size} {before : List Record} {s : Summary} (a : Agrees z before s) (r : Record) (fault_is : fault_of_lem (width_is z) before r ≡ 0) where
  f : Faultless (width_is z) before r
  f = faultless (width_is z) before r fault_is

  range : pollutant_kind ≤ kind r
  range =
      by_kind (kind r) (λ k. omega arith) (λ k. omega arith) (λ k. omega arith) (λ k. omega arith) (λ k. omega arith) (λ n o. never (sym (ap not o) ∙ f.kinds))

  -- the kinds of a heading
  heads : eqb (kind r) pollutant_kind || (eqb (kind r) small_engine_kind || eqb (kind r) run_in_kind) ≡ not (eqb (kind r) engine_kind || eqb (kind r) stop_kind)
  heads =
      by_kind (kind r) (λ k. rw k refl) (λ k. rw k refl) (λ k. rw k refl) (λ k. rw k refl) (λ k. rw k refl) (λ n o. never (sym (ap not o) ∙ f.kinds))

  placed : (eqb (kind r) pollutant_kind && any is_other before ≡ false) × (stopped before ≡ false)
  placed = placed-so before r f.placed

  clean-more : Clean (width_is z) [] (before ++ (r ∷ []))
  clean-more = clean-join (width_is z) [] before (r ∷ []) a.clean (fault_is, tt)

  other-more : ltb pollutant_kind (kind r) ≡ any is_other (before ++ (r ∷ []))
  other-more =
      sym (any_snoc is_other before r
      ∙ by-test (λ t. any is_other before || not t ≡ ltb pollutant_kind (kind r)) (eqb (kind r) pollutant_kind)
      (λ e. rw (and_right _ _ placed.0 e, eqb-true (kind r) pollutant_kind e) refl)
      (λ e.
      let n : kind r ≡ pollutant_kind → ⊥ = eqb-false (kind r) pollutant_kind e in
      rw (lt-ltb pollutant_kind (kind r) (omega (arith, range))) (or-true (any is_other before))))

  -- behind pollutants alone there is neither an engine nor are there run-in values
  unmeasured : s.kind ≤ pollutant_kind → any is_measured before ≡ false
  unmeasured l =
      sym (a.measured_is placed.1) ∙ rw (ne_eqb s.kind engine_kind (λ z. omega arith), ne_eqb s.kind run_in_kind (λ z. omega arith)) refl

  measured-more : stopped (before ++ (r ∷ [])) ≡ false → measures (kind r) ≡ any is_measured (before ++ (r ∷ []))
  measured-more e =
      sym (any_snoc is_measured before r
      ∙ by_kind (kind r)
      (λ k. rw (k, unmeasured (ltb-false pollutant_kind s.kind (a.other_is ∙ and_right (eqb (kind r) pollutant_kind) (any is_other before) placed.0 (rw k refl)))) refl)
      (λ k. rw k (or-true (any is_measured before)))
      (λ k. never (sym (any_last (λ b. eqb (kind b) stop_kind) before r (rw k refl)) ∙ e))
      (λ k.
      let l = eqb-true (last_kind before) pollutant_kind (not-false _ (small-engine-behind before (f.small (rw k refl)))) in
      rw (k, unmeasured (omega (arith, a.kind_is, l))) refl)
      (λ k. rw k (or-true (any is_measured before)))
      (λ n o. never (sym (ap not o) ∙ f.kinds)))

  begun : eqb (kind r) pollutant_kind ≡ false → eqb s.kind 0 ≡ false
  begun e = a.empty_is ∙ not_first before r f.placed e

  limits-more : (p : ℕ) → eqb (kind r) pollutant_kind ≡ true
      → quantity (with_lem s.limits (number r) (limit r)) p ≡ limit_of_lem p (declared (before ++ (r ∷ [])))
  unfolding pollutant declared of_kind
  limits-more p e =
      let o : InOrder (width_is z) 0 (declared before ++ (pollutant r ∷ [])) = rw (declared-one before r e) at (in_order (width_is z) [] (before ++ (r ∷ [])) clean-more) in
      let n = order-last (width_is z) 0 (declared before) (pollutant r) o in
      rw (declared-one before r e, limit-snoc (width_is z) 0 (declared before) (pollutant r) o p, ← a.limit_is p)
      (quantity-with (number r) (limit r) n.0 (omega (arith, n.1, width-range z)) s.limits p)

  pub step : Agrees z (before ++ (r ∷ [])) (summary_with s r)
  unfolding summary_with pollutant declared of_kind heading
  step =
      let is_one = eqb (kind r) pollutant_kind in
      let all = before ++ (r ∷ []) in
      record {
        clean = clean-more;
        kind_is = sym (last-kind before r);
        empty_is = ne_eqb (kind r) 0 (λ z. omega (arith, range)) ∙ sym (empty-more before r);
        other_is = other-more;
        stopped_is = sym (any_snoc (λ b. eqb (kind b) stop_kind) before r ∙ rw placed.1 refl);
        measured_is = measured-more;
        plan_is =
            by-test (λ t. cond t (plan r) s.plan ≡ plan_number all) is_one (λ e. plan-one before r (f.planned e))
            (λ e. a.plan_is ∙ sym (plan-append before (r ∷ []) r e f.placed));
        last_row_is =
            λ z.
            by-test (λ t. cond t (last_row_lem (plan_of (plan r))) s.last_row ≡ last_row_lem (plan_of (cond t (plan r) s.plan))) is_one (λ e. refl)
            (λ e. a.last_row_is (begun e));
        number_is =
            by-test (λ t. cond t (number r) s.number ≡ newest (declared all)) is_one
            (λ e. rw (declared-one before r e) (sym (newest-snoc (declared before) (pollutant r))))
            (λ e. rw (declared-other before r e) a.number_is);
        limit_is =
            λ p.
            by-test (λ t. quantity (cond t (with_lem s.limits (number r) (limit r)) s.limits) p ≡ limit_of_lem p (declared all)) is_one
            (limits-more p) (λ e. rw (declared-other before r e) (a.limit_is p));
        pollutants_is =
            rw (a.pollutants_is, length-map (of_kind pollutant_kind before) pollutant, length-map (of_kind pollutant_kind all) pollutant)
            (sym (count-more (λ b. eqb (kind b) pollutant_kind) before r));
        head_is = rw (a.head_is, heads) (sym (count-more (λ b. not (eqb (kind b) engine_kind || eqb (kind b) stop_kind)) before r));
        engines_is = rw a.engines_is (sym (count-more (λ b. eqb (kind b) engine_kind) before r));
      }
