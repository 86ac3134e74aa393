-- Records that agree in their kinds, one by one, in their plan number and in their declared pollutants: any record has the same fault after
-- the ones as after the others.
use Rattle.arithmetic.proofs.Basics.{ℕ, ◌≡◌, refl, sym, ap, ◌∙◌, Bool, not, ◌||◌, List, [], ◌∷◌, ◌++◌, eqb, length}
use Rattle.arithmetic.proofs.Pairs.{Pairs, none, more, pairs-length, pairs-append, pairs-those, same-any}
use Rattle.rules.specs.Tools.{any}
use Rattle.rules.specs.Sheet.{Record, pollutant_kind, engine_kind, stop_kind, small_engine_kind, run_in_kind, kind, of_kind, heading, engines, plan_number, declared}
use Rattle.rules.specs.Refusals.{misplaced, last_kind, bad_small_engine, bad_run_in, bad_number, bad_plan, too_many, faults, fault_of_lem}
use Rattle.accepted.proofs.Faultless.{Clean, is_other}
use Rattle.accepted.proofs.ByNumber.{declared-join}

abbrev pub SameKind : Record → Record → Type 0
SameKind a b = kind a ≡ kind b

-- ---- by their kinds

same_test : (k : ℕ) (a b : Record) → SameKind a b → eqb (kind a) k ≡ eqb (kind b) k
same_test k a b e = rw e refl

pub same_some : (k : ℕ) {rs ts : List Record} → Pairs SameKind rs ts → any (λ a. eqb (kind a) k) rs ≡ any (λ b. eqb (kind b) k) ts
same_some k s = same-any (λ a. eqb (kind a) k) (λ b. eqb (kind b) k) (same_test k) s

pub same-engines : {rs ts : List Record} → Pairs SameKind rs ts → length (engines rs) ≡ length (engines ts)
unfolding of_kind
same-engines s = pairs-length (pairs-those (λ a. eqb (kind a) engine_kind) (λ b. eqb (kind b) engine_kind) (same_test engine_kind) s)

abbrev in_heading : Record → Bool
in_heading r = not (eqb (kind r) engine_kind || eqb (kind r) stop_kind)

pub same-heading : {rs ts : List Record} → Pairs SameKind rs ts → length (heading rs) ≡ length (heading ts)
unfolding heading
same-heading s = pairs-length (pairs-those in_heading in_heading (λ a b e. rw e refl) s)

same-last_kind : {rs ts : List Record} → Pairs SameKind rs ts → last_kind rs ≡ last_kind ts
same-last_kind none = refl
same-last_kind (more e none) = e
same-last_kind (more e (more f s)) = same-last_kind (more f s)

same-misplaced : {rs ts : List Record} → Pairs SameKind rs ts → (r : Record) → misplaced rs r ≡ misplaced ts r
unfolding misplaced
same-misplaced none r = refl
same-misplaced (more e s) r =
    rw (same_some stop_kind (more e s), same-any is_other is_other (λ a b f. ap not (same_test pollutant_kind a b f)) (more e s)) refl

-- two records of one kind after the same records
pub kind-misplaced : (before : List Record) (a b : Record) → SameKind a b → misplaced before a ≡ misplaced before b
unfolding misplaced
kind-misplaced [] a b e = rw e refl
kind-misplaced (o ∷ before) a b e = rw e refl

-- ---- by their plan number and their pollutants too

same-bad_plan : {rs ts : List Record} → Pairs SameKind rs ts → plan_number rs ≡ plan_number ts → (r : Record) → bad_plan rs r ≡ bad_plan ts r
unfolding bad_plan
same-bad_plan none p r = refl
same-bad_plan (more e s) p r = rw p refl

pub same-faults : (w : ℕ) {rs ts : List Record} → Pairs SameKind rs ts → plan_number rs ≡ plan_number ts → declared rs ≡ declared ts
    → (r : Record) → fault_of_lem w rs r ≡ fault_of_lem w ts r
unfolding fault_of_lem faults bad_small_engine bad_run_in bad_number too_many
same-faults w s p d r =
    rw (
      same-misplaced s r,
      same_some small_engine_kind s,
      same-last_kind s,
      same_some run_in_kind s,
      same_some engine_kind s,
      same-bad_plan s p r,
      same-engines s,
      p,
      d,
    ) refl

-- ---- records behind both

plan-behind : {rs ts : List Record} → Pairs SameKind rs ts → plan_number rs ≡ plan_number ts → (us : List Record) → plan_number (rs ++ us) ≡ plan_number (ts ++ us)
unfolding plan_number
plan-behind none p us = refl
plan-behind (more e s) p us = p

-- each has no fault after the ones if it has none after the others
pub same-clean : (w : ℕ) {rs ts : List Record} → Pairs SameKind rs ts → plan_number rs ≡ plan_number ts → declared rs ≡ declared ts
    → (us : List Record) → Clean w rs us → Clean w ts us
same-clean w s p d [] c = tt
same-clean w {rs} {ts} s p d (u ∷ us) c =
    let e : declared (rs ++ (u ∷ [])) ≡ declared (ts ++ (u ∷ [])) = rw (declared-join rs (u ∷ []), declared-join ts (u ∷ []), d) refl in
    (sym (same-faults w s p d u) ∙ c.0, same-clean w (pairs-append s (more refl none)) (plan-behind s p (u ∷ [])) e us c.1)
