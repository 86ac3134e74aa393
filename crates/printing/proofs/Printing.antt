-- The lines of a judgement and of a refusal are those of document 01.
use Rattle.arithmetic.proofs.Basics.{ℕ, zero, suc, ◌≤◌, ◌<◌, arith, ◌≡◌, refl, sym, ap, ◌∙◌, List, [], ◌∷◌, length, take, take_at, replicate}
use Rattle.rules.specs.Logarithm.{squarings}
use Rattle.rules.specs.Sheet.{pollutants, records, engines}
use Rattle.rules.specs.Series.{pair, Answer, refusal, judgement}
use Rattle.rules.specs.Sizes.{open_pairs}
use Rattle.rules.specs.Operations.{judge}
use Rattle.rules.specs.Printed.{decimal, line, refused_word, verdict_word, printed}
use Rattle.answers.proofs.Answers.{judge-accepted, judgement-accepted}
use Rattle.answers.proofs.Ranges.{JudgementIn, judgement-range}
use Rattle.lines.specs.declared.Lines.{Lines}
use Rattle.lines.specs.Writing.{Adds}
use Rattle.lines.proofs.Written.{at_most}
use Rattle.tally.specs.declared.Judgement.{Judgement}
use Rattle.tally.specs.Judgements.{judgement_is, six_pairs, DeclaresAs}
use Rattle.printing.specs.Judgements.{judgement_lines_lem}

-- "the verdict is 4, printed `held`"
pub held_word : (v : ℕ) → 3 < v → verdict_word v ≡ verdict_word 4
held_word zero h = absurd (omega arith)
held_word (suc zero) h = absurd (omega arith)
held_word (suc (suc zero)) h = absurd (omega arith)
held_word (suc (suc (suc zero))) h = absurd (omega arith)
held_word (suc (suc (suc (suc v)))) h = refl

-- with more room
pub within : (q : ℕ) {l m : Lines} {a : List ℕ} {p : ℕ} → Adds l m a p → p ≤ q → Adds l m a q
within q h f = at_most q h (omega (arith, h.few))

-- an answer with its first w pairs
abbrev first_pairs : (w : ℕ) → Answer → Answer
first_pairs w (refusal number place) = refusal number place
first_pairs w (judgement verdict engine grounds pairs) = judgement verdict engine grounds (take w pairs)

-- of an answer with open pairs behind its own, these are its own
own-pairs : (w k q : ℕ) (b : List ℕ) → first_pairs w (open_pairs k (judge w q b)) ≡ judge w q b
own-pairs w k q b = cases (judge w q b) refl
  where
    cases : (a : Answer) → judge w q b ≡ a → first_pairs w (open_pairs k a) ≡ a
    cases (refusal number place) e = refl
    cases (judgement v n g ps) e =
        let c = judgement-accepted w q b e in
        let r : JudgementIn w (length (engines (records w b))) (judgement v n g ps) =
        rw (sym (judge-accepted w q b c) ∙ e) at (judgement-range w q (records w b)) in
        rw (take_at ps (replicate k (pair 0 0)) w r.3) refl

module _ (b : List ℕ) where
  own : {a : Answer} → a ≡ six_pairs pollutants (judge pollutants squarings b) → first_pairs pollutants a ≡ judge pollutants squarings b
  own e = ap (first_pairs pollutants) e ∙ own-pairs pollutants 2 squarings b

  pub printed-refusal : (number place : ℕ) → refusal number place ≡ six_pairs pollutants (judge pollutants squarings b)
      → line (refused_word ∷ decimal number ∷ decimal place ∷ []) ≡ printed pollutants squarings b
  unfolding printed
  printed-refusal number place e = rw (← own e) refl

  pub printed-judgement : (j : Judgement) → judgement_is j ≡ six_pairs pollutants (judge pollutants squarings b) → DeclaresAs pollutants b j.decisions
      → judgement_lines_lem j ≡ printed pollutants squarings b
  unfolding judgement_lines_lem printed
  printed-judgement j e d = rw (← own e) cc
