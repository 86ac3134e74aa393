-- The program's decisions as document 01's.
use Rattle.std.specs.Prelude.{Bool, true, false, List}
use Rattle.rules.specs.Series as series
use Rattle.pollutants.specs.declared.Each.{Each}
use Rattle.pollutants.specs.Each.{each}
use Rattle.decisions.specs.declared.Decision.{Decision}
use Rattle.decisions.specs.declared.Decision.TheVariants.{Undeclared, Open, Passed, Failed}
use Rattle.decisions.specs.declared.Pair.{Pair}

-- the program's decision as document 01's: "0 open or undeclared"
abbrev pub decision_is : Decision → series.Decision
decision_is Undeclared = series.is_open
decision_is Open = series.is_open
decision_is (Passed n) = series.passed_at n
decision_is (Failed n) = series.failed_at n

-- whether it is one of a declared pollutant
abbrev pub is_declared : Decision → Bool
is_declared Undeclared = false
is_declared Open = true
is_declared (Passed n) = true
is_declared (Failed n) = true

-- its two numbers
abbrev pub pair_is : Pair → series.Pair
pair_is p = series.pair p.decision p.engine

-- ---- of the six pollutants

abbrev pub decisions_is : Each Decision → List series.Decision
decisions_is s = each decision_is s

abbrev pub declared_is_lem : Each Decision → List Bool
declared_is_lem s = each is_declared s
