-- Each kind's record is counted as the definition has it.
use Rattle.std.specs.Prelude.{Ok}
use Rattle.arithmetic.proofs.Basics.{refl, sym, ap, ◌∙◌}
use Rattle.record.proofs.KindNumbers.{number-of-kind, no-kind}
use Rattle.summary.specs.State.{summary_with}
use Rattle.summary.proofs.Summary.with.Goals as goal

pub returns-in-Ok-Pollutant : goal.returns-in-Ok-Pollutant
unfolding summary_with
returns-in-Ok-Pollutant c =
    let k = number-of-kind c.kind_of-kind.result (sym c.try_from.ensures ∙ c.in-Ok-Pollutant.is ∙ ap Ok c.in-Ok-Pollutant.field-0-is) in
    rw (sym c.kind_of-kind.ensures.0 ∙ k, k, c.with-self.ensures, c.limit_of.ensures, c.last_row.ensures, c.of.ensures, c.number_of-number.ensures.0, c.plan_of-plan.ensures.0) refl

pub returns-in-Ok-Engine : goal.returns-in-Ok-Engine
unfolding summary_with
returns-in-Ok-Engine c =
    let k = number-of-kind c.kind_of-kind.result (sym c.try_from.ensures ∙ c.in-Ok-Engine.is ∙ ap Ok c.in-Ok-Engine.field-0-is) in
    rw (sym c.kind_of-kind.ensures.0 ∙ k, k) refl

pub returns-in-Ok-Stop : goal.returns-in-Ok-Stop
unfolding summary_with
returns-in-Ok-Stop c =
    let k = number-of-kind c.kind_of-kind.result (sym c.try_from.ensures ∙ c.in-Ok-Stop.is ∙ ap Ok c.in-Ok-Stop.field-0-is) in
    rw (sym c.kind_of-kind.ensures.0 ∙ k, k) refl

pub returns-in-Ok-SmallEngine : goal.returns-in-Ok-SmallEngine
unfolding summary_with
returns-in-Ok-SmallEngine c =
    let k = number-of-kind c.kind_of-kind.result (sym c.try_from.ensures ∙ c.in-Ok-SmallEngine.is ∙ ap Ok c.in-Ok-SmallEngine.field-0-is) in
    rw (sym c.kind_of-kind.ensures.0 ∙ k, k) refl

pub returns-in-Ok-RunIn : goal.returns-in-Ok-RunIn
unfolding summary_with
returns-in-Ok-RunIn c =
    let k = number-of-kind c.kind_of-kind.result (sym c.try_from.ensures ∙ c.in-Ok-RunIn.is ∙ ap Ok c.in-Ok-RunIn.field-0-is) in
    rw (sym c.kind_of-kind.ensures.0 ∙ k, k) refl

pub returns-in-Err : goal.returns-in-Err
unfolding summary_with
returns-in-Err c =
    let n = no-kind c.kind_of-kind.result (sym c.try_from.ensures ∙ c.in-Err.is) in
    rw (← c.kind_of-kind.ensures.0, n.pollutant, n.engine, n.small_engine, n.run_in) refl
