-- The numbers of an accepted sheet: a declared pollutant's number is 1 to w, and each measurement of it, an engine's or a run-in value, 1 to
-- 9,999,999.
use Rattle.arithmetic.proofs.Basics.{ℕ, zero, suc, ◌≤◌, ◌<◌, arith, ◌≡◌, refl, sym, ◌∙◌, ⊎_elim, Bool, true, false, ◌||◌, List, [], ◌∷◌, eqb, eqb-true, never}
use Rattle.arithmetic.proofs.Basics.{or-false, by-test, lt-or-ge, in-range, any_snoc}
use Rattle.rules.specs.Tools.{any}
use Rattle.rules.specs.Logarithm.{greatest}
use Rattle.rules.specs.Sheet.{Record, Pollutant, pollutant_kind, engine_kind, run_in_kind, measures, measurement, of_kind, engines, run_ins, declared, declares, numbers}
use Rattle.rules.specs.Refusals.{bad_value_lem, bad_measurement_lem}
use Rattle.accepted.proofs.Faultless.{Clean}
use Rattle.accepted.proofs.ByNumber.{InOrder, in_order}
use Rattle.accepted.proofs.Causes.{each_of}

-- a test that holds of none of the numbers 1 to w, and back
pub none_of : (f : ℕ → Bool) (w : ℕ) → any f (numbers w) ≡ false → (p : ℕ) → 1 ≤ p → p ≤ w → f p ≡ false
none_of f zero e p l h = absurd (omega arith)
none_of f (suc w) e p l h =
    let t = or-false (any f (numbers w)) (f (suc w)) (sym (any_snoc f (numbers w) (suc w)) ∙ e) in
    ⊎_elim (λ k. none_of f w t.0 p l (omega arith)) (λ k. let z : p ≡ suc w = omega arith in rw z t.1) (lt-or-ge p (suc w))

pub of_none : (f : ℕ → Bool) (w : ℕ) → ((p : ℕ) → 1 ≤ p → p ≤ w → f p ≡ false) → any f (numbers w) ≡ false
of_none f zero h = refl
of_none f (suc w) h =
    rw (any_snoc f (numbers w) (suc w), of_none f w (λ p l u. h p l (omega arith)), h (suc w) (omega arith) (omega arith)) refl

-- ---- the declared pollutants

number_of : (w m : ℕ) (ps : List Pollutant) → InOrder w m ps → (p : ℕ) → declares ps p ≡ true → (m < p) × (p ≤ w)
unfolding declares
number_of w m [] h p d = never (sym d)
number_of w m (c ∷ ps) h p d =
    by-test (λ t. t || declares ps p ≡ true → (m < p) × (p ≤ w)) (eqb c.number p)
    (λ e f. rw (← (eqb-true c.number p e)) (h.0, h.1))
    (λ e f. let n = number_of w c.number ps h.5 p f in (omega arith, n.1)) d

pub number_in : (w : ℕ) (rs : List Record) → Clean w [] rs → (p : ℕ) → declares (declared rs) p ≡ true → (1 ≤ p) × (p ≤ w)
unfolding declared of_kind
number_in w rs c = number_of w 0 (declared rs) (in_order w [] rs c)

-- ---- the measurements

abbrev pub InRange : (p : ℕ) → List Record → Type 0
InRange p [] = Unit {0}
InRange p (r ∷ rs) = (1 ≤ measurement r p) × (measurement r p ≤ greatest) × InRange p rs

measured : (w : ℕ) (ps : List Pollutant) (r : Record) (p : ℕ) → bad_measurement_lem w ps r ≡ false → declares ps p ≡ true → 1 ≤ p → p ≤ w
    → (1 ≤ measurement r p) × (measurement r p ≤ greatest)
unfolding bad_measurement_lem
measured w ps r p e d l h = in-range 1 greatest (measurement r p) (rw d at (none_of (bad_value_lem ps r) w e p l h))

pub values-in : (k : ℕ) → eqb k pollutant_kind ≡ false → measures k ≡ true → (w : ℕ) (rs : List Record) → Clean w [] rs
    → (p : ℕ) → declares (declared rs) p ≡ true → InRange p (of_kind k rs)
values-in k other holds w rs c p d =
    let n = number_in w rs c p d in
    each_of k other w [] rs c (InRange p) tt
    (λ r es i m f q. let x = measured w (declared rs) r p (m holds) d n.0 n.1 in (x.0, x.1, q))

pub measurements-in : (w : ℕ) (rs : List Record) → Clean w [] rs → (p : ℕ) → declares (declared rs) p ≡ true → InRange p (engines rs)
measurements-in = values-in engine_kind refl refl

pub run-in-values-in : (w : ℕ) (rs : List Record) → Clean w [] rs → (p : ℕ) → declares (declared rs) p ≡ true → InRange p (run_ins rs)
run-in-values-in = values-in run_in_kind refl refl
