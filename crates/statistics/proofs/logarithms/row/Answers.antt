-- The row is that of plan 1, or of a plan that compares with roots.
use Rattle.arithmetic.proofs.Basics.{sym, ◌∙◌, ◌≡◌, refl, true, never}
use Rattle.rules.specs.Logarithm.{squarings}
use Rattle.plan.specs.declared.Plan.{Plan}
use Rattle.plan.specs.declared.Plan.TheVariants.{KnownDeviation, UnknownDeviation, Attributes, InService, Corrected}
use Rattle.plan.specs.Plan.{plan_is}
use Rattle.tables.specs.Tables.{compares_roots}
use Rattle.rows.proofs.Rows.{known-row-is, root-row-is}
use Rattle.statistics.specs.Ranges.{takes_logarithms}
use Rattle.statistics.proofs.logarithms.row.Goals as goal

-- the plans that take logarithms, without plan 1
compares : (plan : Plan) → (plan ≡ KnownDeviation → ⊥) → takes_logarithms (plan_is plan) ≡ true → compares_roots (plan_is plan) ≡ true
compares KnownDeviation k l = absurd (k refl)
compares UnknownDeviation k l = refl
compares Attributes k l = never (sym l)
compares InService k l = refl
compares Corrected k l = refl

pub returns-in-KnownDeviation : goal.returns-in-KnownDeviation
returns-in-KnownDeviation c = λ L k xs s.
    c.known_row.ensures ∙ (rw (c.in-KnownDeviation.is, s.count, s.sum_is, s.gain_is, s.level_is) (sym (known-row-is squarings L _ k xs)))

pub returns-in_default : goal.returns-in_default
returns-in_default c = λ L k xs s.
    c.root_row.ensures
    ∙ (rw (s.count, s.sum_is, s.squares_is, s.gain_is, s.level_is)
    (sym (root-row-is squarings L _ k xs (plan_is c.args.table.plan) (compares c.args.table.plan c.in_default.not-KnownDeviation c.requires.logs))))
