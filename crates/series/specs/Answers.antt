-- What judging answers, as document 01's numbers.
use Rattle.std.specs.Prelude.{ℕ, List, Result, Ok, Err}
use Rattle.rules.specs.Series as rules
use Rattle.checking.specs.declared.Refusal.{Refusal}
use Rattle.tally.specs.declared.Judgement.{Judgement}
use Rattle.tally.specs.Judgements.{judgement_is, DeclaresAs}

abbrev pub judged_is : Result Judgement Refusal → rules.Answer
judged_is (Ok j) = judgement_is j
judged_is (Err r) = rules.refusal r.number r.place

-- a decision tells whether its pollutant is declared
abbrev pub DeclaredIs : (w : ℕ) → List ℕ → Result Judgement Refusal → Type 0
DeclaredIs w b (Ok j) = DeclaresAs w b j.decisions
DeclaredIs w b (Err r) = Unit {0}
