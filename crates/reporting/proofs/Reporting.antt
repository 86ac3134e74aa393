-- Report: judging refuses what the check refuses, and the 20 bytes are judging's answer.
use Rattle.arithmetic.proofs.Basics.{ℕ, ◌+◌, ◌*◌, ◌≤◌, ◌<◌, arith, ◌≡◌, refl, sym, ap, ◌∙◌, List, [], ◌∷◌, ◌++◌, length, take, drop, replicate, length-append, length-replicate}
use Rattle.arithmetic.proofs.Basics.{take_at, lt-ltb, le-ltb}
use Rattle.rules.specs.Logarithm.{squarings}
use Rattle.rules.specs.Sheet.{pollutants, more_pollutants, size, records, engines}
use Rattle.rules.specs.Series.{Pair, pair, Answer, refusal, judgement, judge_records}
use Rattle.rules.specs.Sizes.{open_pairs, report_sized, reported_sized}
use Rattle.rules.specs.Refusals.{Check, accepted, refused, check}
use Rattle.rules.specs.Operations.{judge, pair_bytes, report_bytes, report, reported}
use Rattle.answers.proofs.Answers.{check_in, judge-check, judge-accepted}
use Rattle.answers.proofs.Ranges.{JudgementIn, judgement-range}
use Rattle.sizes.proofs.Columns.{report-columns}
use Rattle.std.specs.Prelude.{Result, Ok, Err}
use Rattle.refusals.specs.declared.Reason.{Reason}
use Rattle.layout.specs.declared.Size.{Size}
use Rattle.checking.specs.declared.Refusal.{Refusal}
use Rattle.checking.specs.Check.{refusal_of}
use Rattle.outcomes.specs.Outcomes.{outcome_is}
use Rattle.layout.specs.declared.Size.TheVariants.{Twenty, TwentyEight}
use Rattle.layout.specs.Sizes.{width_is, name_of}
use Rattle.layout.proofs.Sizes.{known-size, unknown-size, why-unknown}
use Rattle.tally.specs.declared.Judgement.{Judgement}
use Rattle.tally.specs.Judgements.{judgement_is, six_pairs}
use Rattle.series.specs.Answers.{judged_is}
use Rattle.reporting.specs.Judging.{judged_check}

judged-check : (j : Result Judgement Refusal) → judged_check j ≡ check_in (judged_is j)
judged-check (Ok j) = refl
judged-check (Err r) = refl

check-of : (w : ℕ) (a : Answer) → check_in (six_pairs w a) ≡ check_in a
check-of w (refusal number place) = refl
check-of w (judgement verdict engine grounds pairs) = refl

-- ---- the report with six pairs begins with that of the sheet's size

length_pairs : (ps : List Pair) → length (pair_bytes ps) ≡ 2 * length ps
length_pairs [] = refl
length_pairs (pair d n ∷ ps) = omega (arith, length_pairs ps)

first-bytes : (w k n : ℕ) (a : Answer) → JudgementIn w n a → take (size w) (report_bytes (w + k) (open_pairs k a)) ≡ report_bytes w a
first-bytes w k n (refusal number place) h = absurd h
first-bytes w k n (judgement v m g ps) h =
    rw (report-columns w k v m g ps)
    (take_at (report_bytes w (judgement v m g ps)) (replicate (4 * k) 0) (size w)
    (omega (arith, h.3, length_pairs ps, length-append (pair_bytes ps) (replicate (2 * w) 0), length-replicate {A = ℕ} (2 * w) 0)))

report-six : (z : Size) (b : List ℕ) → check (width_is z) b ≡ accepted
    → take (size (width_is z)) (report_bytes more_pollutants (six_pairs (width_is z) (judge (width_is z) squarings b))) ≡ report_bytes (width_is z) (judge (width_is z) squarings b)
report-six Twenty b c =
    let rs = records pollutants b in
    rw (judge-accepted pollutants squarings b c) (first-bytes pollutants 2 (length (engines rs)) (judge_records pollutants squarings rs) (judgement-range pollutants squarings rs))
report-six TwentyEight b c =
    let rs = records more_pollutants b in
    rw (judge-accepted more_pollutants squarings b c) (first-bytes more_pollutants 0 (length (engines rs)) (judge_records more_pollutants squarings rs) (judgement-range more_pollutants squarings rs))

-- ---- the output

module _ (z : Size) (b o : List ℕ) where
  abbrev w : ℕ
  w = width_is z

  pub too_short : length o < size w → report w b o ≡ refused 15 0
  unfolding report
  too_short h = rw (lt-ltb (length o) (size w) h) refl

  module _ (h : size w ≤ length o) (j : Result Judgement Refusal) (e : judged_is j ≡ six_pairs w (judge w squarings b)) where
    pub answer-is : report w b o ≡ judged_check j
    unfolding report
    answer-is =
        rw (le-ltb (length o) (size w) h) (sym (judged-check j ∙ ap check_in e ∙ check-of w (judge w squarings b) ∙ judge-check w squarings b))

    -- of the report with six pairs, as many bytes as the size has
    pub wrote : {g : Judgement} → j ≡ Ok g → {v : List ℕ} (part : List ℕ) → v ≡ report_bytes more_pollutants (judgement_is g)
        → part ≡ take (size w) v → {l : List ℕ} → l ≡ part ++ drop (size w) o
        → (accepted ≡ report w b o) × (l ≡ reported w squarings b o)
    unfolding reported
    wrote {g} p part q f r =
        let s : report w b o ≡ accepted = answer-is ∙ ap judged_check p in
        let c : check w b ≡ accepted = sym (judge-check w squarings b) ∙ sym (check-of w (judge w squarings b)) ∙ sym (ap check_in e) ∙ ap (λ (x : Result Judgement Refusal). check_in (judged_is x)) p in
        let six : judgement_is g ≡ six_pairs w (judge w squarings b) = rw p at e in
        let is : part ≡ report_bytes w (judge w squarings b) = f ∙ ap (take (size w)) (q ∙ ap (report_bytes more_pollutants) six) ∙ report-six z b c in
        (sym s, rw (r, s, is) refl)

-- ---- by the size that a caller names

module _ (s : ℕ) (b o : List ℕ) {n : Result Size Reason} (e : n ≡ name_of s) where
  pub report-unknown : {r : Reason} → n ≡ Err r → outcome_is (Err (refusal_of r)) ≡ report_sized s b o
  unfolding report_sized
  report-unknown k = rw (why-unknown s e k) (unknown-size s e k _ (λ w. report w b o))

  pub reported-unknown : {r : Reason} → n ≡ Err r → o ≡ reported_sized s squarings b o
  unfolding reported_sized
  reported-unknown k = unknown-size s e k o (λ w. reported w squarings b o)

  pub report-known : {z : Size} → n ≡ Ok z → {a : Check} {held : List ℕ} → (a ≡ report (width_is z) b o) × (held ≡ reported (width_is z) squarings b o)
      → (a ≡ report_sized s b o) × (held ≡ reported_sized s squarings b o)
  unfolding report_sized reported_sized
  report-known k h = (h.0 ∙ known-size s e k _ (λ w. report w b o), h.1 ∙ known-size s e k o (λ w. reported w squarings b o))
