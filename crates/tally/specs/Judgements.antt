-- The judgement of an accepted sheet, as document 01's numbers.
use Rattle.std.specs.Prelude.{ℕ, ◌-◌, ◌≡◌, List, map, Option, Some, None}
use Rattle.rules.specs.Logarithm.{squarings}
use Rattle.rules.specs.Sheet.{more_pollutants, numbers, records, declared, declares}
use Rattle.rules.specs.Series as rules
use Rattle.rules.specs.Sizes.{open_pairs}
use Rattle.pollutants.specs.declared.Each.{Each}
use Rattle.decisions.specs.declared.Decision.{Decision}
use Rattle.decisions.specs.Decisions.{decisions_is, declared_is_lem}
use Rattle.tally.specs.declared.Verdict.{Verdict}
use Rattle.tally.specs.declared.Verdict.TheVariants.{Another, Pass, FailByRow, FailByCause, FailByStop, Referred, Held}
use Rattle.tally.specs.declared.Numbers.{Numbers}
use Rattle.tally.specs.declared.Judgement.{Judgement}

-- "verdict (0 another, 1 pass, 2 fail, 3 referred), engine .., ground (0 none, 1 a row, 2 equal cause, 3 stopped, 4 referred)"; 02, F-5: "the
-- verdict is 4, printed `held`, at that row with ground 5"
abbrev pub numbers_of_lem : Verdict → Numbers
numbers_of_lem (Another n) = record { verdict = 0; engine = n; grounds = 0 }
numbers_of_lem (Pass n) = record { verdict = 1; engine = n; grounds = 1 }
numbers_of_lem (FailByRow n) = record { verdict = 2; engine = n; grounds = 1 }
numbers_of_lem (FailByCause n) = record { verdict = 2; engine = n; grounds = 2 }
numbers_of_lem (FailByStop n) = record { verdict = 2; engine = n; grounds = 3 }
numbers_of_lem (Referred n) = record { verdict = 3; engine = n; grounds = 4 }
numbers_of_lem (Held n) = record { verdict = 4; engine = n; grounds = 5 }

-- the engine whose record decides: a row's or equal cause's
abbrev pub deciding_lem : Verdict → Option ℕ
deciding_lem (Another n) = None
deciding_lem (Pass n) = Some n
deciding_lem (FailByRow n) = Some n
deciding_lem (FailByCause n) = Some n
deciding_lem (FailByStop n) = None
deciding_lem (Referred n) = None
deciding_lem (Held n) = None

abbrev pub numbers_answer : Numbers → List rules.Pair → rules.Answer
numbers_answer n pairs = rules.judgement n.verdict n.engine n.grounds pairs

abbrev pub verdict_is : Verdict → List rules.Pair → rules.Answer
verdict_is v pairs = numbers_answer (numbers_of_lem v) pairs

-- "and for each pollutant decision (0 open or undeclared, 1 pass, 2 fail) and engine (0 where the decision is 0)"
abbrev pub pairs_is : Each Decision → List rules.Pair
pairs_is ds = map rules.pair_of (decisions_is ds)

abbrev pub judgement_is : Judgement → rules.Answer
judgement_is j = verdict_is j.verdict (pairs_is j.decisions)

-- the program's judgement has six pairs: an answer for w pollutants with an open pair for each that it lacks
abbrev pub six_pairs : (w : ℕ) → rules.Answer → rules.Answer
six_pairs w a = open_pairs (more_pollutants - w) a

-- a decision tells whether its pollutant is declared on the sheet b of w pollutants
abbrev pub DeclaresAs : (w : ℕ) → List ℕ → Each Decision → Type 0
DeclaresAs w b ds = declared_is_lem ds ≡ map (declares (declared (records w b))) (numbers more_pollutants)

-- the judgement of an accepted sheet
pub record JudgementIs (w : ℕ) (b : List ℕ) (j : Judgement) : Type 0 where
  pub judges : judgement_is j ≡ six_pairs w (rules.judge_records w squarings (records w b))
  pub declares : DeclaresAs w b j.decisions
