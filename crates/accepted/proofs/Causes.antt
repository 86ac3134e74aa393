-- The causes of an accepted sheet: in plan 4 the gross emitters are the vehicles with a cause, and in the other plans there is none.
use Rattle.arithmetic.proofs.Basics.{ℕ, ◌≡◌, refl, sym, Bool, true, false, not, ◌&&◌, ◌||◌, cond, List, [], ◌∷◌, ◌++◌, append_assoc, append-nil, eqb, eqb-true}
use Rattle.arithmetic.proofs.Basics.{ne_eqb, never, by-test, any_last}
use Rattle.rules.specs.Tools.{within}
use Rattle.rules.specs.Sheet.{Record, Pollutant, pollutant_kind, engine_kind, measures, kind, cause, is_pending, of_kind, engines, plan_number, declared, gross}
use Rattle.rules.specs.Plans.{in_service_lem, number_of}
use Rattle.rules.specs.Refusals.{misplaced, bad_measurement_lem, bad_cause_lem, greatest_cause}
use Rattle.accepted.proofs.Faultless.{Clean, faultless, is_other, of_kind-append, no-pollutants}

abbrev pub has_cause : Record → Bool
has_cause r = not (eqb (cause r) 0)

abbrev pub Caused : (in_service_lem : Bool) → List Pollutant → List Record → Type 0
Caused b ps [] = Unit {0}
Caused b ps (e ∷ es) = (b && gross ps e ≡ has_cause e) × Caused b ps es

pub cause-fine : (n : ℕ) (ps : List Pollutant) (r : Record) → bad_cause_lem n ps r ≡ false → eqb n (number_of in_service_lem) && gross ps r ≡ has_cause r
unfolding bad_cause_lem
cause-fine n ps r e =
    by-test (λ t. cond t (not (within 1 greatest_cause (cause r) || is_pending (cause r))) (has_cause r) ≡ false → t ≡ has_cause r) (eqb n (number_of in_service_lem) && gross ps r)
    (λ q f. rw (ne_eqb (cause r) 0 (λ z. let o : true ≡ false = rw z at f in never o)) refl) (λ q f. sym f) e

-- pollutants and plan are those of the records before an engine
pub declared-append : (rs ts : List Record) → of_kind pollutant_kind ts ≡ [] → declared (rs ++ ts) ≡ declared rs
unfolding declared
declared-append rs ts e = rw (of_kind-append pollutant_kind rs ts, e, append-nil) refl

pub plan-append : (before ts : List Record) (r : Record) → eqb (kind r) pollutant_kind ≡ false → misplaced before r ≡ false → plan_number (before ++ ts) ≡ plan_number before
unfolding plan_number misplaced
plan-append [] ts r e f = let z : true ≡ false = rw e at f in never z
plan-append (b ∷ bs) ts r e f = refl

-- what holds of the records of another kind than a pollutant, by what the check says of each: its measurements and its cause have no fault
pub each_of : (k : ℕ) → eqb k pollutant_kind ≡ false → (w : ℕ) (before rs : List Record) → Clean w before rs → (Q : List Record → Type 0) → Q []
    → ((r : Record) (es : List Record) → kind r ≡ k → (measures k ≡ true → bad_measurement_lem w (declared (before ++ rs)) r ≡ false)
    → (k ≡ engine_kind → bad_cause_lem (plan_number (before ++ rs)) (declared (before ++ rs)) r ≡ false) → Q es → Q (r ∷ es))
    → Q (of_kind k rs)
unfolding of_kind
each_of k other w before [] c Q none more = none
each_of k other w before (r ∷ rs) c Q none more =
    let rest : Q (of_kind k rs) = each_of k other w (before ++ (r ∷ [])) rs c.1 Q none (rw append_assoc more) in
    by-test (λ t. Q (cond t (r ∷ of_kind k rs) (of_kind k rs))) (eqb (kind r) k)
    (λ e.
    let f = faultless w before r c.0 in
    let i : kind r ≡ k = eqb-true (kind r) k e in
    let o : eqb (kind r) pollutant_kind ≡ false = rw i other in
    let z : of_kind pollutant_kind (r ∷ rs) ≡ [] = rw o (no-pollutants w (before ++ (r ∷ [])) rs (any_last is_other before r (rw o refl)) c.1) in
    let d = declared-append before (r ∷ rs) z in
    more r (of_kind k rs) i (λ m. rw d (f.measured (rw i m)))
    (λ h. rw (plan-append before (r ∷ rs) r o f.placed, d) (f.caused (rw (i, h) refl))) rest)
    (λ e. rest)

pub causes : (w : ℕ) (rs : List Record) → Clean w [] rs → Caused (eqb (plan_number rs) (number_of in_service_lem)) (declared rs) (engines rs)
causes w rs c =
    each_of engine_kind refl w [] rs c (Caused (eqb (plan_number rs) (number_of in_service_lem)) (declared rs)) tt
    (λ r es i m f q. (cause-fine (plan_number rs) (declared rs) r (f refl), q))
