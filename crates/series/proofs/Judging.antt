-- The answers for bytes: judging and evidence, from the judgement of an accepted sheet or from its refusal.
use Rattle.std.specs.Prelude.{Result, Ok, Err, Some, None}
use Rattle.arithmetic.proofs.Basics.{ℕ, ◌+◌, ◌-◌, ◌*◌, ◌≤◌, le_trans, mul-le-mul_left, arith, ◌≡◌, refl, sym, ap, ◌∙◌, Bool, true, false, never, ◌||◌, List, [], eqb, length, take}
use Rattle.rules.specs.Logarithm.{squarings}
use Rattle.rules.specs.Sheet.{more_pollutants, size, records}
use Rattle.rules.specs.Series as rules
use Rattle.rules.specs.Refusals.{Check, check, refused}
use Rattle.rules.specs.Operations.{judge_by, judge, evidence_by, evidence}
use Rattle.rules.specs.Sizes.{width, check_sized, judge_sized, evidence_sized, open_pairs}
use Rattle.accepted.specs.Sheets.{engines_in}
use Rattle.accepted.proofs.Sheets.{inside}
use Rattle.answers.proofs.Answers.{engine_in}
use Rattle.answers.proofs.Answers as answers
use Rattle.answers.proofs.Ranges.{engine-within}
use Rattle.refusals.specs.declared.Reason.{Reason}
use Rattle.refusals.specs.Numbers.{number_is}
use Rattle.layout.specs.declared.Size.{Size}
use Rattle.layout.specs.Sizes.{width_is, name_of}
use Rattle.layout.proofs.Sizes.{known-size, known-width, unknown-size, why-unknown}
use Rattle.summary.specs.declared.Summary.{Summary}
use Rattle.checking.specs.Check.{refusal_of, Valid}
use Rattle.checking.proofs.Laws as laws
use Rattle.tally.specs.declared.Judgement.{Judgement}
use Rattle.tally.specs.declared.Verdict.{Verdict}
use Rattle.tally.specs.declared.Verdict.TheVariants.{Another, Pass, FailByRow, FailByCause, FailByStop, Referred, Held}
use Rattle.tally.specs.Judgements.{numbers_of_lem, deciding_lem, judgement_is, six_pairs, JudgementIs}
use Rattle.series.specs.Answers.{judged_is}

-- ---- judging and evidence of a refused sheet

module _ (w : ℕ) (b : List ℕ) {n p : ℕ} (h : check w b ≡ refused n p) where
  refused-judged : rules.refusal n p ≡ judge w squarings b
  unfolding judge
  refused-judged = sym (ap (λ (c : Check). judge_by w squarings c (records w b)) h)

  pub judge-refused : rules.refusal n p ≡ six_pairs w (judge w squarings b)
  judge-refused = ap (six_pairs w) refused-judged

  pub evidence-refused : [] ≡ evidence w squarings b
  unfolding evidence
  evidence-refused = ap (λ (a : rules.Answer). evidence_by w a b) refused-judged

-- ---- judging and evidence of an accepted sheet

-- whether the ground is a row or equal cause, so that a record decides
abbrev by_record : Verdict → Bool
by_record v = let n = numbers_of_lem v in eqb n.grounds 1 || eqb n.grounds 2

record Decided (v : Verdict) (n : ℕ) : Type 0 where
  by_a_record : by_record v ≡ true
  engine_is : (numbers_of_lem v).engine ≡ n

decided : (v : Verdict) {n : ℕ} → deciding_lem v ≡ Some n → Decided v n
decided (Another m) e = let z : true ≡ false = cc in never z
decided (Pass m) e = record { by_a_record = refl; engine_is = cc }
decided (FailByRow m) e = record { by_a_record = refl; engine_is = cc }
decided (FailByCause m) e = record { by_a_record = refl; engine_is = cc }
decided (FailByStop m) e = let z : true ≡ false = cc in never z
decided (Referred m) e = let z : true ≡ false = cc in never z
decided (Held m) e = let z : true ≡ false = cc in never z

undecided : (v : Verdict) → deciding_lem v ≡ None → by_record v ≡ false
undecided (Another m) e = refl
undecided (Pass m) e = let z : true ≡ false = cc in never z
undecided (FailByRow m) e = let z : true ≡ false = cc in never z
undecided (FailByCause m) e = let z : true ≡ false = cc in never z
undecided (FailByStop m) e = refl
undecided (Referred m) e = refl
undecided (Held m) e = refl

-- evidence and engine ask for no pair
no-pair : (w k : ℕ) (a : rules.Answer) (b : List ℕ) → (evidence_by w (open_pairs k a) b ≡ evidence_by w a b) × (engine_in (open_pairs k a) ≡ engine_in a)
no-pair w k (rules.refusal number place) b = (refl, refl)
no-pair w k (rules.judgement verdict engine grounds pairs) b = (refl, refl)

module _ {z : Size} {b : List ℕ} {s : Summary} (v : Valid z b s) {j : Judgement} (is : JudgementIs (width_is z) b j) where
  abbrev w : ℕ
  w = width_is z

  pub judge-accepted : judgement_is j ≡ six_pairs w (judge w squarings b)
  judge-accepted = is.judges ∙ ap (six_pairs w) (sym (answers.judge-accepted w squarings b v.accepts))

  evidence-by : evidence_by w (judgement_is j) b ≡ evidence w squarings b
  unfolding evidence
  evidence-by = ap (λ (a : rules.Answer). evidence_by w a b) judge-accepted ∙ (no-pair w (more_pollutants - w) (judge w squarings b) b).0

  module _ {n : ℕ} (d : deciding_lem j.verdict ≡ Some n) where
    -- the part through the deciding engine's record lies in the sheet
    pub evidence-fits : size w * (s.head + n) ≤ length b
    evidence-fits =
        let tested : engine_in (judgement_is j) ≤ length (engines_in w b) =
        rw (ap engine_in is.judges ∙ (no-pair w (more_pollutants - w) (rules.judge_records w squarings (records w b)) b).1) (engine-within w squarings (records w b)) in
        rw (← (decided j.verdict d).engine_is) (le_trans (mul-le-mul_left (size w) (omega (arith, tested))) (inside (laws.accepted-so v)))

    pub evidence-part : take (size w * (s.head + n)) b ≡ evidence w squarings b
    evidence-part =
        let e = decided j.verdict d in
        rw (← evidence-by, (laws.accepted-so v).starts, e.by_a_record, e.engine_is) refl

  pub evidence-whole : deciding_lem j.verdict ≡ None → b ≡ evidence w squarings b
  evidence-whole d = rw (← evidence-by, undecided j.verdict d) refl

-- ---- by the size that a caller names

module _ (s : ℕ) (b : List ℕ) {n : Result Size Reason} (e : n ≡ name_of s) where
  module _ {r : Reason} (k : n ≡ Err r) where
    pub judge-unknown : judged_is (Err (refusal_of r)) ≡ six_pairs (width s) (judge_sized s squarings b)
    unfolding judge_sized
    judge-unknown = rw (why-unknown s e k) (ap (six_pairs (width s)) (unknown-size s e k _ (λ w. judge w squarings b)))

    pub evidence-unknown : [] ≡ evidence_sized s squarings b
    unfolding evidence_sized
    evidence-unknown = unknown-size s e k [] (λ w. evidence w squarings b)

    pub check-unknown : refused (number_is r) 0 ≡ check_sized s b
    unfolding check_sized
    check-unknown = rw (why-unknown s e k) (unknown-size s e k _ (λ w. check w b))

  module _ {z : Size} (k : n ≡ Ok z) where
    pub judge-known : {a : rules.Answer} → a ≡ six_pairs (width_is z) (judge (width_is z) squarings b) → a ≡ six_pairs (width s) (judge_sized s squarings b)
    unfolding judge_sized
    judge-known h =
        h ∙ ap (six_pairs (width_is z)) (known-size s e k _ (λ w. judge w squarings b)) ∙ ap (λ (w : ℕ). six_pairs w (judge_sized s squarings b)) (known-width s e k)

    pub evidence-known : evidence (width_is z) squarings b ≡ evidence_sized s squarings b
    unfolding evidence_sized
    evidence-known = known-size s e k [] (λ w. evidence w squarings b)

    pub check-known : check (width_is z) b ≡ check_sized s b
    unfolding check_sized
    check-known = known-size s e k _ (λ w. check w b)
