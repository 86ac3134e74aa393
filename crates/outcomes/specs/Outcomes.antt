-- The program's outcomes as document 01's refusals.
use Rattle.std.specs.Prelude.{Result, Ok, Err}
use Rattle.rules.specs.Refusals.{Check, accepted, refused}
use Rattle.summary.specs.declared.Summary.{Summary}
use Rattle.checking.specs.declared.Refusal.{Refusal}

abbrev pub outcome_is : Result (Unit {0}) Refusal → Check
outcome_is (Ok done) = accepted
outcome_is (Err r) = refused r.number r.place

-- the check's answer, without what an accepted sheet says
abbrev pub check_is : Result Summary Refusal → Check
check_is (Ok s) = accepted
check_is (Err r) = refused r.number r.place
