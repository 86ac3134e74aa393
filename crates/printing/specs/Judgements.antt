-- The lines of a judgement, as the program has its parts.
use Rattle.std.specs.Prelude.{ℕ, List, [], ◌∷◌, ◌++◌}
use Rattle.rules.specs.Series.{pair_of}
use Rattle.rules.specs.Printed.{decimal, line, verdict_word, pollutant_line}
use Rattle.decisions.specs.declared.Decision.{Decision}
use Rattle.decisions.specs.Decisions.{decision_is, is_declared}
use Rattle.tally.specs.declared.Numbers.{Numbers}
use Rattle.tally.specs.declared.Judgement.{Judgement}
use Rattle.tally.specs.Judgements.{numbers_of_lem}

-- "Line 1: verdict word .., engine, ground"
abbrev pub first_line_lem : Numbers → List ℕ
first_line_lem n = line (verdict_word n.verdict ∷ decimal n.engine ∷ decimal n.grounds ∷ [])

-- "a line for each declared pollutant"
abbrev pub decision_line : (p : ℕ) → Decision → List ℕ
decision_line p d = pollutant_line (is_declared d) p (pair_of (decision_is d))

-- pollutant 1 first
unfoldable pub judgement_lines_lem : Judgement → List ℕ
judgement_lines_lem j =
    first_line_lem (numbers_of_lem j.verdict)
    ++ (decision_line 1 j.decisions.co
    ++ (decision_line 2 j.decisions.hc
    ++ (decision_line 3 j.decisions.nox
    ++ (decision_line 4 j.decisions.pm
    ++ []))))
