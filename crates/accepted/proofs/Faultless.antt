-- The records of an accepted sheet, each of which has no fault after those before it.
use Rattle.arithmetic.proofs.Basics.{ℕ, zero, suc, ◌*◌, ◌%◌, ◌≤◌, arith, ◌≡◌, refl, sym, ap, ◌∙◌, Bool, true, false, not, ◌&&◌, ◌||◌, cond, List, [], ◌∷◌, ◌++◌}
use Rattle.arithmetic.proofs.Basics.{append_assoc, append-nil, eqb, leb, ltb, length, eqb-true, eqb-false, not-false, ne_eqb, lt-leb, le-ltb, ltb-false}
use Rattle.arithmetic.proofs.Basics.{never, or-false, and_left, and_right, and-never, by-test, any_left, any_last, any-or, those-append}
use Rattle.rules.specs.Tools.{any}
use Rattle.rules.specs.Sheet.{Record, size, most, records, pollutant_kind, engine_kind, stop_kind, small_engine_kind, run_in_kind, measures, kind, of_kind, heading, plan_number, declared, stopped}
use Rattle.rules.specs.Refusals.{is_kind, misplaced, last_kind, bad_small_engine, bad_run_in, bad_number, bad_plan, bad_limit, bad_deviation, bad_measurement_lem, bad_cause_lem, too_many, unused, Fault, fault, first, faults, fault_of_lem}
use Rattle.rules.specs.Refusals.{Check, accepted, refused, check_from, bad_length_lem, check}
use Rattle.rules.specs.Operations.{and_then}

-- ---- each record has no fault after those before it

abbrev pub Clean : (w : ℕ) → (before rs : List Record) → Type 0
Clean w before [] = Unit {0}
Clean w before (r ∷ rs) = (fault_of_lem w before r ≡ 0) × Clean w (before ++ (r ∷ [])) rs

pub clean_of : (w : ℕ) (before rs : List Record) → check_from w before rs ≡ accepted → Clean w before rs
unfolding check_from
clean_of w before [] e = tt
clean_of w before (r ∷ rs) e =
    let n = fault_of_lem w before r in
    let after = check_from w (before ++ (r ∷ [])) rs in
    by-test (λ t. cond t after (refused n (length before)) ≡ accepted → Clean w before (r ∷ rs)) (eqb n 0)
    (λ h f. (eqb-true n 0 h, clean_of w (before ++ (r ∷ [])) rs f)) (λ h f. let z : true ≡ false = cc in never z) e

pub clean-append : (w : ℕ) (before rs ts : List Record) → Clean w before (rs ++ ts) → Clean w before rs × Clean w (before ++ rs) ts
clean-append w before [] ts c = (tt, rw append-nil c)
clean-append w before (r ∷ rs) ts c =
    let p = clean-append w (before ++ (r ∷ [])) rs ts c.1 in
    ((c.0, p.0), rw append_assoc at p.1)

pub clean-join : (w : ℕ) (before rs ts : List Record) → Clean w before rs → Clean w (before ++ rs) ts → Clean w before (rs ++ ts)
clean-join w before [] ts c d = rw append-nil at d
clean-join w before (r ∷ rs) ts c d = (c.0, clean-join w (before ++ (r ∷ [])) rs ts c.1 (rw append_assoc d))

-- the check passes over records that have no fault
pub check-clean : (w : ℕ) (before rs ts : List Record) → Clean w before rs → check_from w before (rs ++ ts) ≡ check_from w (before ++ rs) ts
unfolding check_from
check-clean w before [] ts c = rw append-nil refl
check-clean w before (r ∷ rs) ts c = rw c.0 (check-clean w (before ++ (r ∷ [])) rs ts c.1 ∙ rw append_assoc refl)

-- what the check of bytes says: a record or more, none cut off, not more than there may be, and no fault
pub record Sound (w : ℕ) (b : List ℕ) : Type 0 where
  pub some : 1 ≤ length b
  pub whole : length b % size w ≡ 0
  pub longest : length b ≤ most w * size w
  pub clean : Clean w [] (records w b)

pub cond-accepted : (n : ℕ) (t : Bool) (c : Check) → cond t (refused n 0) c ≡ accepted → (t ≡ false) × (c ≡ accepted)
cond-accepted n true c e = let z : true ≡ false = cc in never z
cond-accepted n false c e = (refl, e)

pub then-accepted : (c d : Check) → and_then c d ≡ accepted → (c ≡ accepted) × (d ≡ accepted)
then-accepted accepted d e = (refl, e)
then-accepted (refused n p) d e = let z : true ≡ false = cc in never z

-- refusal 1
pub length-fine : (w n : ℕ) → bad_length_lem w n ≡ false → (1 ≤ n) × ((n % size w ≡ 0) × (n ≤ most w * size w))
unfolding bad_length_lem
length-fine w n e =
    let p = or-false (eqb n 0 || not (eqb (n % size w) 0)) (ltb (most w * size w) n) e in
    let q = or-false (eqb n 0) (not (eqb (n % size w) 0)) p.0 in
    let d = eqb-false n 0 q.0 in
    (omega arith, (eqb-true (n % size w) 0 (not-false (eqb (n % size w) 0) q.1), ltb-false (most w * size w) n p.1))

pub sound : (w : ℕ) (b : List ℕ) → check w b ≡ accepted → Sound w b
unfolding check
sound w b e =
    let p = cond-accepted 1 (bad_length_lem w (length b)) (check_from w [] (records w b)) e in
    let l = length-fine w (length b) p.0 in
    record { some = l.0; whole = l.1.0; longest = l.1.1; clean = clean_of w [] (records w b) p.1 }

-- and the check accepts what is so
pub sound-accepted : (w : ℕ) (b : List ℕ) → Sound w b → check w b ≡ accepted
unfolding check check_from bad_length_lem
sound-accepted w b s =
    let l = s.some in
    let e : check_from w [] (records w b) ≡ accepted = rw append-nil at (check-clean w [] (records w b) [] s.clean) in
    rw (ne_eqb (length b) 0 (λ z. omega arith), s.whole, le-ltb (most w * size w) (length b) s.longest) e

-- ---- the single faults: the one place that knows their order

abbrev None : List Fault → Type 0
None [] = Unit {0}
None (fault zero b ∷ fs) = Unit {0}
None (fault (suc k) b ∷ fs) = (b ≡ false) × None fs

none : (fs : List Fault) → first fs ≡ 0 → None fs
none [] e = tt
none (fault zero b ∷ fs) e = tt
none (fault (suc k) true ∷ fs) e = absurd (omega arith)
none (fault (suc k) false ∷ fs) e = (refl, none fs e)

pub record Faultless (w : ℕ) (before : List Record) (r : Record) : Type 0 where
  pub kinds : not (is_kind (kind r)) ≡ false
  pub placed : misplaced before r ≡ false
  pub small : eqb (kind r) small_engine_kind ≡ true → bad_small_engine before ≡ false
  pub ran : eqb (kind r) run_in_kind ≡ true → bad_run_in before ≡ false
  pub numbered : eqb (kind r) pollutant_kind ≡ true → bad_number w before r ≡ false
  pub planned : eqb (kind r) pollutant_kind ≡ true → bad_plan before r ≡ false
  pub limited : eqb (kind r) pollutant_kind ≡ true → bad_limit r ≡ false
  pub deviating : eqb (kind r) pollutant_kind ≡ true → bad_deviation r ≡ false
  pub measured : measures (kind r) ≡ true → bad_measurement_lem w (declared before) r ≡ false
  pub caused : eqb (kind r) engine_kind ≡ true → bad_cause_lem (plan_number before) (declared before) r ≡ false
  pub counted : eqb (kind r) engine_kind ≡ true → too_many before ≡ false
  pub zeroed : unused w r ≡ false

pub faultless : (w : ℕ) (before : List Record) (r : Record) → fault_of_lem w before r ≡ 0 → Faultless w before r
unfolding fault_of_lem faults
faultless w before r e =
    let p : None (faults w before r) = none (faults w before r) e in
    let of-small-engines = p.1.1 in
    let of-run-ins = of-small-engines.1.1.1 in
    let of-pollutants = of-run-ins.1 in
    let of-engines = of-pollutants.1.1.1.1 in
    record {
      kinds = p.0;
      placed = p.1.0;
      small = and_right _ _ of-small-engines.0;
      ran = and_right _ _ of-run-ins.0;
      numbered = and_right _ _ of-pollutants.0;
      planned = and_right _ _ of-pollutants.1.0;
      limited = and_right _ _ of-pollutants.1.1.0;
      deviating = and_right _ _ of-pollutants.1.1.1.0;
      measured = and_right _ _ of-engines.0;
      caused = and_right _ _ of-engines.1.0;
      counted = and_right _ _ of-engines.1.1.0;
      zeroed = of-engines.1.1.1.1.0;
    }

-- ---- the order of the kinds

no_kind : {X : Type 0} (k : ℕ) → is_kind k ≡ false → (((n : ℕ) → is_kind n ≡ true → eqb k n ≡ false) → is_kind k ≡ false → X) → X
no_kind k e other = other (λ n h. ne_eqb k n (λ z. never (sym h ∙ rw z at e))) e

pub by_kind : {X : Type 0} (k : ℕ) → (k ≡ pollutant_kind → X) → (k ≡ engine_kind → X) → (k ≡ stop_kind → X) → (k ≡ small_engine_kind → X) → (k ≡ run_in_kind → X)
    → (((n : ℕ) → is_kind n ≡ true → eqb k n ≡ false) → is_kind k ≡ false → X) → X
by_kind zero one two three five six other = no_kind 0 refl other
by_kind (suc zero) one two three five six other = one refl
by_kind (suc (suc zero)) one two three five six other = two refl
by_kind (suc (suc (suc zero))) one two three five six other = three refl
by_kind (suc (suc (suc (suc zero)))) one two three five six other = no_kind 4 refl other
by_kind (suc (suc (suc (suc (suc zero))))) one two three five six other = five refl
by_kind (suc (suc (suc (suc (suc (suc zero)))))) one two three five six other = six refl
by_kind (suc (suc (suc (suc (suc (suc (suc k))))))) one two three five six other =
    let m = suc (suc (suc (suc (suc (suc (suc k)))))) in
    no_kind m
    (rw (lt-leb m stop_kind (omega arith), lt-leb m run_in_kind (omega arith), and-never (leb pollutant_kind m), and-never (leb small_engine_kind m)) refl) other

abbrev pub is_other : Record → Bool
is_other r = not (eqb (kind r) pollutant_kind)

pub of_kind-append : (k : ℕ) (rs ts : List Record) → of_kind k (rs ++ ts) ≡ of_kind k rs ++ of_kind k ts
unfolding of_kind
of_kind-append k rs ts = those-append (λ r. eqb (kind r) k) rs ts

pub heading-append : (rs ts : List Record) → heading (rs ++ ts) ≡ heading rs ++ heading ts
unfolding heading
heading-append rs ts = those-append (λ r. not (eqb (kind r) engine_kind || eqb (kind r) stop_kind)) rs ts

-- no record of the kind k
pub of_kind-none : (k : ℕ) (rs : List Record) → any (λ r. eqb (kind r) k) rs ≡ false → of_kind k rs ≡ []
unfolding of_kind
of_kind-none k [] e = refl
of_kind-none k (r ∷ rs) e = let p = or-false (eqb (kind r) k) _ e in rw p.0 (of_kind-none k rs p.1)

pub last-kind : (before : List Record) (r : Record) → last_kind (before ++ (r ∷ [])) ≡ kind r
last-kind [] r = refl
last-kind (a ∷ []) r = refl
last-kind (a ∷ b ∷ bs) r = last-kind (b ∷ bs) r

-- a pollutant stands after pollutants alone, and nothing after a stop
pub placed-so : (before : List Record) (r : Record) → misplaced before r ≡ false
    → (eqb (kind r) pollutant_kind && any is_other before ≡ false) × (stopped before ≡ false)
unfolding misplaced
placed-so [] r e = (and-never (eqb (kind r) pollutant_kind), refl)
placed-so (b ∷ bs) r e = or-false _ _ e

-- there is no record of the kind k behind one that is not let stand before it
none-behind : (k : ℕ) (test : Record → Bool) (w : ℕ)
    → ((before : List Record) (r : Record) → any test before ≡ true → Faultless w before r → eqb (kind r) k ≡ false)
    → (before rs : List Record) → any test before ≡ true → Clean w before rs → of_kind k rs ≡ []
unfolding of_kind
none-behind k test w h before [] a c = refl
none-behind k test w h before (r ∷ rs) a c =
    rw (h before r a (faultless w before r c.0))
    (none-behind k test w h (before ++ (r ∷ [])) rs (any_left test before (r ∷ []) a) c.1)

-- after a record of another kind there is no pollutant
pub no-pollutants : (w : ℕ) (before rs : List Record) → any is_other before ≡ true → Clean w before rs → of_kind pollutant_kind rs ≡ []
no-pollutants w =
    none-behind pollutant_kind is_other w (λ before r a f. and_left (eqb (kind r) pollutant_kind) (any is_other before) (placed-so before r f.placed).0 a)

-- after a small engine there is no other
abbrev is_small : Record → Bool
is_small r = eqb (kind r) small_engine_kind

pub no-small-engines : (w : ℕ) (before rs : List Record) → any is_small before ≡ true → Clean w before rs → of_kind small_engine_kind rs ≡ []
unfolding bad_small_engine
no-small-engines w =
    none-behind small_engine_kind is_small w
    (λ before r a f.
    by-test (λ t. t ≡ false) (is_small r) (λ e. let z : true ≡ false = rw a at (f.small e) in never z) (λ e. refl))

-- after an engine there are no run-in values, and after run-in values no others
abbrev pub is_measured : Record → Bool
is_measured r = measures (kind r)

pub run-in-first : (before : List Record) → bad_run_in before ≡ false → any is_measured before ≡ false
unfolding bad_run_in
run-in-first before e =
    let p = (or-false (any (λ b. eqb (kind b) run_in_kind) before || any (λ b. eqb (kind b) engine_kind) before) _ e).0 in
    any-or (λ b. eqb (kind b) engine_kind) (λ b. eqb (kind b) run_in_kind) before
    ∙ let q = or-false (any (λ b. eqb (kind b) run_in_kind) before) _ p in rw (q.0, q.1) refl

pub no-run-ins : (w : ℕ) (before rs : List Record) → any is_measured before ≡ true → Clean w before rs → of_kind run_in_kind rs ≡ []
no-run-ins w =
    none-behind run_in_kind is_measured w
    (λ before r a f. by-test (λ t. t ≡ false) (eqb (kind r) run_in_kind) (λ e. never (sym a ∙ run-in-first before (f.ran e))) (λ e. refl))

-- a small engine stands behind a pollutant
pub small-engine-behind : (before : List Record) → bad_small_engine before ≡ false → not (eqb (last_kind before) pollutant_kind) ≡ false
unfolding bad_small_engine
small-engine-behind before e =
    (or-false (any (λ b. eqb (kind b) small_engine_kind) before) (not (eqb (last_kind before) pollutant_kind))
    (or-false (any (λ b. eqb (kind b) small_engine_kind) before || not (eqb (last_kind before) pollutant_kind)) _ e).0).1

-- after a stop there is nothing
pub nothing-after : (w : ℕ) (before rs : List Record) → stopped before ≡ true → Clean w before rs → rs ≡ []
nothing-after w before [] a c = refl
nothing-after w before (r ∷ rs) a c = never (sym a ∙ (placed-so before r (faultless w before r c.0).placed).1)

measured-other : (r : Record) → is_measured r ≡ true → is_other r ≡ true
measured-other r e = by-test (λ t. not t ≡ true) (eqb (kind r) pollutant_kind) (λ o. let z : false ≡ true = rw (eqb-true (kind r) pollutant_kind o) at e in never (sym z)) (λ o. refl)

-- after an engine, and after run-in values, there are engines and a stop alone
pub no-heading : (w : ℕ) (before : List Record) (r : Record) (rs : List Record) → is_measured r ≡ true → Clean w (before ++ (r ∷ [])) rs → heading rs ≡ []
unfolding heading
no-heading w before r [] m c = refl
no-heading w before r (a ∷ rs) m c =
    let all = before ++ (r ∷ []) in
    let f = faultless w all a c.0 in
    let o = measured-other r m in
    by_kind (kind a)
    (λ k. let n : any is_other all ≡ false = rw k at (placed-so all a f.placed).0 in never (sym (any_last is_other before r o) ∙ n))
    (λ k. rw k (no-heading w all a rs (rw k refl) c.1))
    (λ k. rw (k, nothing-after w (all ++ (a ∷ [])) rs (any_last (λ b. eqb (kind b) stop_kind) all a (rw k refl)) c.1) refl)
    (λ k. let l = small-engine-behind all (f.small (rw k refl)) in never (sym o ∙ rw (last-kind before r) at l))
    (λ k. never (sym (any_last is_measured before r m) ∙ run-in-first all (f.ran (rw k refl))))
    (λ n e. never (sym (ap not e) ∙ f.kinds))
