-- Every sheet between two accepted ones is accepted, under every plan but 4, whose causes go by the measurements.
use Rattle.arithmetic.proofs.Basics.{ℕ, ◌≤◌, arith, ◌≡◌, refl, sym, ◌∙◌, ◌⊎◌, inl, inr, ⊎_elim, Bool, true, false, not, ◌||◌, cond, List, [], ◌∷◌, ◌++◌, append_assoc}
use Rattle.arithmetic.proofs.Basics.{eqb, le-leb, eq-eqb, eqb-true, not-false, by-test, in-range, any_part}
use Rattle.arithmetic.proofs.Pairs.{Pairs, none, more, pairs-append, pairs-follow}
use Rattle.rules.specs.Tools.{within}
use Rattle.rules.specs.Logarithm.{greatest}
use Rattle.rules.specs.Sheet.{Record, Pollutant, engine_kind, run_in_kind, measures, records, kind, plan, cause, measurement, declares, declared, plan_number}
use Rattle.rules.specs.Plans.{in_service_lem, number_of}
use Rattle.rules.specs.Refusals.{bad_value_lem, bad_measurement_lem, bad_cause_lem, nonzero, unused, faults, fault_of_lem, accepted, check}
use Rattle.accepted.proofs.Faultless.{Clean, faultless, sound, sound-accepted}
use Rattle.accepted.proofs.SameKinds.{kind-misplaced, same-faults}
use Rattle.accepted.proofs.Ranges.{none_of, of_none}
use Rattle.demands.proofs.Alike.{Same, records-same, same_kind, plan-same, declared_same}
use Rattle.rules.specs.Ranges.{Between}

-- ---- a number between two that are right

value-between : (d : Bool) (x y z : ℕ) → y ≤ x → z ≤ y
    → cond d (not (within 1 greatest x)) (not (eqb x 0)) ≡ false → cond d (not (within 1 greatest z)) (not (eqb z 0)) ≡ false
    → cond d (not (within 1 greatest y)) (not (eqb y 0)) ≡ false
value-between true x y z h l e f =
    let i = in-range 1 greatest x e in
    let j = in-range 1 greatest z f in
    rw (le-leb 1 y (omega (arith, j.0)), le-leb y greatest (omega (arith, i.1))) refl
value-between false x y z h l e f = let i = eqb-true x 0 (not-false (eqb x 0) e) in rw (eq-eqb y 0 (omega arith)) refl

-- ---- a record between two that have no fault after the same records

measures-so : (k : ℕ) → measures k ≡ true → (k ≡ engine_kind) ⊎ (k ≡ run_in_kind)
measures-so k e =
    by-test (λ t. t || eqb k run_in_kind ≡ true → (k ≡ engine_kind) ⊎ (k ≡ run_in_kind)) (eqb k engine_kind)
    (λ h f. inl (eqb-true k engine_kind h)) (λ h f. inr (eqb-true k run_in_kind f)) e

abbrev is_set : (byte : ℕ) → Bool
is_set x = not (eqb x 0)

-- what a record with measurements has before them
module _ {w : ℕ} {a b : Record} (s : Same w a b) where
  same-cause : cause a ≡ cause b
  unfolding cause
  same-cause = rw (s.head 2 (omega arith), s.head 3 (omega arith)) refl

  -- "12, another byte that must be zero": byte 1 of an engine, bytes 1 to 3 of run-in values
  byte_one : nonzero a 1 2 ≡ nonzero b 1 2
  unfolding nonzero
  byte_one = rw (any_part is_set 0 refl 0 1 a, any_part is_set 0 refl 0 1 b, s.head 1 (omega arith)) refl

  bytes-to-three : nonzero a 1 4 ≡ nonzero b 1 4
  unfolding nonzero
  bytes-to-three =
      rw (
        any_part is_set 0 refl 2 1 a,
        any_part is_set 0 refl 1 2 a,
        any_part is_set 0 refl 0 3 a,
        any_part is_set 0 refl 2 1 b,
        any_part is_set 0 refl 1 2 b,
        any_part is_set 0 refl 0 3 b,
        s.head 1 (omega arith),
        s.head 2 (omega arith),
        s.head 3 (omega arith),
      ) refl

  same-unused : measures (kind a) ≡ true → unused w a ≡ unused w b
  unfolding unused
  same-unused m =
      rw (byte_one, bytes-to-three, ← (same_kind s)) (⊎_elim (λ k. rw k refl) (λ k. rw k refl) (measures-so (kind a) m))

module _ (w : ℕ) (before : List Record) {h s l : Record} (above : Same w h s) (below : Same w s l)
    (plan : eqb (plan_number before) (number_of in_service_lem) ≡ false) where
  -- "8, measurement"
  measured : (ps : List Pollutant) → measures (kind h) ≡ true → bad_measurement_lem w ps h ≡ false → bad_measurement_lem w ps l ≡ false → bad_measurement_lem w ps s ≡ false
  unfolding bad_measurement_lem
  measured ps m e f =
      of_none (bad_value_lem ps s) w
      (λ p o u.
      value-between (declares ps p) (measurement h p) (measurement s p) (measurement l p)
      (above.lower m p o u) (below.lower (rw (← (same_kind above)) m) p o u) (none_of (bad_value_lem ps h) w e p o u) (none_of (bad_value_lem ps l) w f p o u))

  -- "9, cause", which is 0
  caused : (ps : List Pollutant) → bad_cause_lem (plan_number before) ps h ≡ false → bad_cause_lem (plan_number before) ps s ≡ false
  unfolding bad_cause_lem
  caused ps e = rw (plan, ← (same-cause above)) (rw plan at e)

  module _ (m : measures (kind h) ≡ true) (e : fault_of_lem w before h ≡ 0) (f : fault_of_lem w before l ≡ 0) where
    abbrev ps : List Pollutant
    ps = declared before

    values : bad_measurement_lem w ps s ≡ false
    values = measured ps m ((faultless w before h e).measured m) ((faultless w before l f).measured (rw (← (same_kind below), ← (same_kind above)) m))

    engine-fine : kind h ≡ engine_kind → fault_of_lem w before s ≡ 0
    unfolding fault_of_lem faults
    engine-fine k =
        let g = faultless w before h e in
        let i : eqb (kind h) engine_kind ≡ true = rw k refl in
        rw (
          ← (kind-misplaced before h s (same_kind above)),
          g.placed,
          values,
          caused ps (g.caused i),
          g.counted i,
          ← (same-unused above m),
          g.zeroed,
          ← (same_kind above),
          k,
        ) refl

    run-in-fine : kind h ≡ run_in_kind → fault_of_lem w before s ≡ 0
    unfolding fault_of_lem faults
    run-in-fine k =
        let g = faultless w before h e in
        rw (
          ← (kind-misplaced before h s (same_kind above)),
          g.placed,
          g.ran (rw k refl),
          values,
          ← (same-unused above m),
          g.zeroed,
          ← (same_kind above),
          k,
        ) refl

  fine : fault_of_lem w before h ≡ 0 → fault_of_lem w before l ≡ 0 → fault_of_lem w before s ≡ 0
  fine e f =
      by-test (λ t. measures (kind h) ≡ t → fault_of_lem w before s ≡ 0) (measures (kind h))
      (λ t m. ⊎_elim (engine-fine m e f) (run-in-fine m e f) (measures-so (kind h) m))
      (λ t m. rw (← (above.whole m)) e) refl

-- ---- the records of a sheet

-- the plan of the records before one is that of all, or there are none
plan-before : (before rs : List Record) (n : ℕ) → eqb 0 n ≡ false → eqb (plan_number (before ++ rs)) n ≡ false → eqb (plan_number before) n ≡ false
unfolding plan_number plan
plan-before [] rs n z e = z
plan-before (b ∷ before) rs n z e = e

kinds-of : {w : ℕ} {rs ts : List Record} → Pairs (Same w) rs ts → Pairs (λ (a b : Record). kind a ≡ kind b) rs ts
kinds-of = pairs-follow (λ a b s. same_kind s)

between-clean : {w : ℕ} {hb sb lb hs ss ls : List Record} → Pairs (Same w) hb sb → Pairs (Same w) sb lb
    → eqb (plan_number (hb ++ hs)) (number_of in_service_lem) ≡ false → Pairs (Same w) hs ss → Pairs (Same w) ss ls → Clean w hb hs → Clean w lb ls → Clean w sb ss
between-clean b d p none none c e = tt
between-clean {w} {hb} {sb} {lb} b d p (more {x = h} {y = s} {xs = hs} above r) (more {y = l} below t) c e =
    let n : eqb (plan_number sb) (number_of in_service_lem) ≡ false = rw (← (plan-same b)) (plan-before hb (h ∷ hs) (number_of in_service_lem) refl p) in
    let hf : fault_of_lem w sb h ≡ 0 = sym (same-faults w (kinds-of b) (plan-same b) (declared_same b) h) ∙ c.0 in
    let lf : fault_of_lem w sb l ≡ 0 = same-faults w (kinds-of d) (plan-same d) (declared_same d) l ∙ e.0 in (
      fine w sb above below n hf lf,
      between-clean (pairs-append b (more above none)) (pairs-append d (more below none)) (rw append_assoc p) r t c.1 e.1,
    )

pub between-checked : (w : ℕ) (low high S : List ℕ) → check w low ≡ accepted → check w high ≡ accepted
    → eqb (plan_number (records w high)) (number_of in_service_lem) ≡ false → Between w low high S → check w S ≡ accepted
between-checked w low high S cl ch p b =
    let l = sound w low cl in
    let h = sound w high ch in
    let long = b.alike_high.equally_long in
    let whole = rw long at h.whole in
    sound-accepted w S
    (record {
      some = rw long at h.some;
      whole = whole;
      longest = rw long at h.longest;
      clean =
          between-clean none none p (records-same w high S b.alike_high b.not_above h.whole) (records-same w S low b.alike_low b.not_below whole)
          h.clean l.clean;
    })
