-- Judging's answer as document 01's refusal.
use Rattle.std.specs.Prelude.{Result, Ok, Err}
use Rattle.rules.specs.Refusals.{Check, accepted, refused}
use Rattle.checking.specs.declared.Refusal.{Refusal}
use Rattle.tally.specs.declared.Judgement.{Judgement}

-- without what it says of an accepted sheet
abbrev pub judged_check : Result Judgement Refusal → Check
judged_check (Ok j) = accepted
judged_check (Err r) = refused r.number r.place
