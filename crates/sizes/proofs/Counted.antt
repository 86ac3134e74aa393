-- How many records an accepted sheet has: a pollutant for each number, a small engine, run-in values, the engines of the last row, a stop.
-- A sheet of w + k pollutants that declares none above w has no more records than one of w has room for.
use Rattle.arithmetic.proofs.Basics.{ℕ, ◌+◌, ◌≤◌, arith, ◌≡◌, ap, ◌∙◌, false, cond, List, [], ◌∷◌, ◌++◌, eqb, ltb, length, length-append, length-map, ltb-false, or-false, by-test, any_last}
use Rattle.rules.specs.Sheet.{Record, Pollutant, most, pollutant_kind, stop_kind, small_engine_kind, kind, of_kind, heading, run_ins, plan_number, declared, pollutant}
use Rattle.rules.specs.Plans.{plan_of}
use Rattle.rules.specs.Converter.{above}
use Rattle.accepted.proofs.Faultless.{Clean, nothing-after}
use Rattle.accepted.proofs.ByNumber.{InOrder, in_order}
use Rattle.accepted.proofs.Engines.{heading-parts, one-small-engine, one-run-in, counts}
use Rattle.accepted.proofs.Sheets.{engines-after, last-most}

-- numbers that rise from above m to v at most are v − m at most
numbers-few : (w v m : ℕ) (ps : List Pollutant) → m ≤ v → InOrder w m ps → above v ps ≡ false → m + length ps ≤ v
numbers-few w v m [] l h a = omega arith
numbers-few w v m (c ∷ ps) l h a =
    let t = or-false (ltb v c.number) (above v ps) a in
    omega (arith, h.0, numbers-few w v c.number ps (ltb-false v c.number t.0) h.5 t.1)

stops-few : (w : ℕ) (before rs : List Record) → Clean w before rs → length (of_kind stop_kind rs) ≤ 1
unfolding of_kind
stops-few w before [] c = omega arith
stops-few w before (r ∷ rs) c =
    by-test (λ t. length (cond t (r ∷ of_kind stop_kind rs) (of_kind stop_kind rs)) ≤ 1) (eqb (kind r) stop_kind)
    (λ e. rw (nothing-after w (before ++ (r ∷ [])) rs (any_last (λ b. eqb (kind b) stop_kind) before r e) c.1) (omega arith))
    (λ e. stops-few w (before ++ (r ∷ [])) rs c.1)

-- each pollutant once, the small engine and the run-in values if there are any, 32 engines and a stop
pub few-and-small : (w v : ℕ) (rs : List Record) → Clean w [] rs → above v (declared rs) ≡ false
    → length rs ≤ v + 33 + (length (of_kind small_engine_kind rs) + length (run_ins rs))
unfolding declared of_kind
few-and-small w v rs c a =
    let ps = of_kind pollutant_kind rs in
    let p = numbers-few w v 0 (declared rs) (omega arith) (in_order w [] rs c) a in
    let h : length (heading rs) ≡ length ps + (length (of_kind small_engine_kind rs) + length (run_ins rs)) =
    ap length (heading-parts w [] rs c) ∙ simp length-append in
    let e = engines-after w [] rs c (omega arith) in
    omega (arith, p, length-map ps pollutant, h, e, last-most (plan_of (plan_number rs)), stops-few w [] rs c, counts w rs c)

pub few : (w v : ℕ) (rs : List Record) → Clean w [] rs → above v (declared rs) ≡ false → length rs ≤ most v
few w v rs c a = omega (arith, few-and-small w v rs c a, one-small-engine w [] rs c, one-run-in w [] rs c)
