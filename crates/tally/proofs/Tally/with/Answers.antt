-- A column that waits, passes or fails, with its decision in the pollutant's place.
use Rattle.arithmetic.proofs.Basics.{ℕ, ◌≡◌, ⊎_elim, ap, ◌∙◌, cond, ltb, arith, by-test, ltb-true, ltb-false}
use Rattle.std.specs.Prelude.{max}
use Rattle.rules.specs.Series.{is_open}
use Rattle.columns.specs.Tally.{put, counted}
use Rattle.decisions.specs.Decisions.{decision_is, decisions_is}
use Rattle.decisions.proofs.Placing.{with-decisions}
use Rattle.tally.proofs.Tally.with.Goals as goal
use Rattle.tally.proofs.Tally.with.Goals.{After-with-decisions}

placed : (c : After-with-decisions) → decisions_is c.with-decisions.result ≡ put c.args.number (decision_is c.args.d) (decisions_is c.args.self.decisions)
placed c = ap decisions_is c.with-decisions.ensures ∙ with-decisions _ _ _

later : (a n : ℕ) → max a n ≡ cond (ltb a n) n a
later a n = by-test (λ t. max a n ≡ cond t n a) (ltb a n) (λ e. omega (arith, ltb-true a n e)) (λ e. omega (arith, ltb-false a n e))

pub returns-in-Undeclared : goal.returns-in-Undeclared
unfolding counted
returns-in-Undeclared c =
    let waits : decision_is c.args.d ≡ is_open = ⊎_elim (λ e. ap decision_is e) (λ e. ap decision_is e) c.in-Undeclared.is in
    (rw (placed (goal.at.returns-in-Undeclared c).After-with-decisions, waits), c.with-decisions.ensures)

pub returns-in-Passed : goal.returns-in-Passed
unfolding counted
returns-in-Passed c =
    let l = later c.args.self.latest c.in-Passed.n in
    (rw (placed (goal.at.returns-in-Passed c).After-with-decisions, c.in-Passed.is) (cc), c.with-decisions.ensures)

pub returns-in-Failed : goal.returns-in-Failed
unfolding counted
returns-in-Failed c = (rw (placed (goal.at.returns-in-Failed c).After-with-decisions, c.in-Failed.is), c.with-decisions.ensures)
