-- One record more, by what stands there.
use Rattle.arithmetic.proofs.Basics.{ℕ, ◌+◌, ◌≤◌, add-one, ◌≡◌, refl, ap, arith, List}
use Rattle.rules.specs.Sheet.{record_size}
use Rattle.reading.specs.declared.Step.{Step}
use Rattle.reading.specs.declared.Step.TheVariants.{Pollutant, Engine, Stop, SmallEngine, RunIn, Other, End}
use Rattle.reading.specs.Steps.{step_at_lem}
use Rattle.explaining.specs.Explanation.{is_engine, engines_in}
use Rattle.explaining.proofs.engines_through.Goals as goal

at-most-one : (s : Step) → is_engine s ≤ 1
at-most-one (Pollutant number plan limit deviation) = omega arith
at-most-one (Engine cause measurements) = omega arith
at-most-one Stop = omega arith
at-most-one (SmallEngine volume speed date) = omega arith
at-most-one (RunIn measurements) = omega arith
at-most-one (Other kind) = omega arith
at-most-one End = omega arith

one_more : (sheet : List ℕ) (k : ℕ) {s : Step} → s ≡ step_at_lem record_size sheet k → engines_in sheet (k + 1) ≡ engines_in sheet k + is_engine s
unfolding engines_in
one_more sheet k e = rw (add-one k, e) refl

pub loop-k-init : goal.loop-k-init
unfolding engines_in
loop-k-init c = (omega arith, refl)

pub loop-k-preserved : goal.loop-k-preserved
loop-k-preserved c =
    let s = c.step_at.result in
    (omega (arith, c.is_engine-engines.ensures, at-most-one s), omega (arith, one_more c.args.sheet.now c.loop-k.k c.step_at.ensures, c.is_engine-engines.ensures))

pub returns-2 : goal.returns-2
returns-2 c =
    let k : c.loop-k.k ≡ c.args.record = omega (arith, c.loop-k-test.true, c.if-k-last.false) in
    rw (← add-one c.args.record, ← k) (omega (arith, one_more c.args.sheet.now c.loop-k.k c.step_at.ensures, c.is_engine-engines.ensures))
