-- The answer for a range: from what judging says of the two sheets, or from a refusal, in document 02's order.
use Rattle.arithmetic.proofs.Basics.{ℕ, ◌-◌, ◌≡◌, refl, sym, ◌∙◌, Bool, true, false, not, ◌&&◌, cond, List, eqb, length, ne_eqb, never, not-or}
use Rattle.rules.specs.Logarithm.{squarings}
use Rattle.rules.specs.Sheet.{more_pollutants}
use Rattle.rules.specs.Plans.{known_deviation_lem, attributes, number_of}
use Rattle.rules.specs.Series.{Pair, Answer, refusal, judgement}
use Rattle.rules.specs.Refusals.{accepted, refused, check}
use Rattle.rules.specs.Operations.{judge}
use Rattle.rules.specs.Sizes.{open_pairs}
use Rattle.rules.specs.Ranges.{differ_elsewhere, other_plan_lem, range_check, RangeAnswer, turned_away, range_by, range, range_sized}
use Rattle.answers.proofs.Answers.{judge-accepted}
use Rattle.std.specs.Prelude.{Result, Ok, Err}
use Rattle.refusals.specs.declared.Reason.{Reason}
use Rattle.layout.specs.declared.Size.{Size}
use Rattle.layout.specs.Sizes.{width_is, name_of}
use Rattle.layout.proofs.Sizes.{known-size, unknown-size, why-unknown}
use Rattle.summary.specs.declared.Summary.{Summary}
use Rattle.checking.specs.Check.{Valid, refusal_of}
use Rattle.checking.proofs.Laws.{plan-is, accepted-so}
use Rattle.tally.specs.declared.Numbers.{Numbers}
use Rattle.tally.specs.declared.Judgement.{Judgement}
use Rattle.tally.specs.Judgements.{numbers_of_lem, numbers_answer, JudgementIs}
use Rattle.comparing.specs.declared.Comparison.{Comparison}
use Rattle.comparing.specs.Ranges.{CompareRange}
use Rattle.comparing.specs.Comparisons.{Compares}
use Rattle.judging_ranges.specs.Ranges.{VerdictSays, range_is}

-- ---- what judging says of an accepted sheet

-- an answer is the same but for its pairs
of-pairs : (k : ℕ) (n : Numbers) (a : Answer) (pairs : List Pair) → numbers_answer n pairs ≡ open_pairs k a → (own : List Pair) × (a ≡ numbers_answer n own)
of-pairs k n (refusal number place) pairs e = let z : true ≡ false = cc in never z
of-pairs k n (judgement verdict engine grounds own) pairs e = (own, cc)

pub verdict-says : {z : Size} {b : List ℕ} {s : Summary} → Valid z b s → {j : Judgement} → JudgementIs (width_is z) b j → VerdictSays (width_is z) b j.verdict
verdict-says {z} {b} v {j} is =
    let t = of-pairs (more_pollutants - width_is z) (numbers_of_lem j.verdict) _ _ is.judges in
    (t.0, judge-accepted (width_is z) squarings b v.accepts ∙ t.1)

-- ---- two sheets that the check accepts

pub record BothValid (z : Size) (low : List ℕ) (of_low : Summary) (high : List ℕ) (of_high : Summary) : Type 0 where
  pub low_valid : Valid z low of_low
  pub high_valid : Valid z high of_high

pub both : {z y : Size} {low high : List ℕ} {of_low of_high : Summary} → Valid z low of_low → Valid y high of_high → z ≡ y → BothValid z low of_low high of_high
both v w e = record { low_valid = v; high_valid = rw e w }

module _ {z : Size} {low high : List ℕ} {of_low of_high : Summary} (v : BothValid z low of_low high of_high) where
  abbrev w : ℕ
  w = width_is z

  -- "27, sheets differ elsewhere", in length
  pub unequally-long : (length low ≡ length high → ⊥) → turned_away 27 0 ≡ range w squarings low high
  unfolding range range_check differ_elsewhere
  unequally-long h = rw (v.low_valid.accepts, v.high_valid.accepts, ne_eqb (length low) (length high) h) refl

  pub compared : length low ≡ length high → CompareRange w low high of_low.head
  compared e =
      record { low_sheet = rw (plan-is v.low_valid) at (accepted-so v.low_valid); high_accepted = v.high_valid.accepts; equally_long = e }

  module _ {c : Comparison} (found : Compares w low high c) where
    pub differ : c.differs ≡ true → turned_away 27 0 ≡ range w squarings low high
    unfolding range range_check
    differ t = rw (v.low_valid.accepts, v.high_valid.accepts, sym found.differing ∙ t) refl

    module _ (alike : c.differs ≡ false) where
      pub cross : c.crosses ≡ true → turned_away 28 0 ≡ range w squarings low high
      unfolding range range_check
      cross t = rw (v.low_valid.accepts, v.high_valid.accepts, sym found.differing ∙ alike, sym (found.crossing alike) ∙ t) refl

      module _ (ordered : c.crosses ≡ false) where
        abbrev is_other : Bool
        is_other = not (eqb of_low.plan (number_of known_deviation_lem)) && not (eqb of_low.plan (number_of attributes))

        last : range w squarings low high ≡ range_by (cond is_other (refused 29 0) accepted) (judge w squarings low) (judge w squarings high)
        unfolding range range_check other_plan_lem
        last =
            rw (
              v.low_valid.accepts,
              v.high_valid.accepts,
              sym found.differing ∙ alike,
              sym (found.crossing alike) ∙ ordered,
              ← (plan-is v.low_valid),
              not-or (eqb of_low.plan (number_of known_deviation_lem)) (eqb of_low.plan (number_of attributes)),
            ) refl

        pub other-plan : is_other ≡ true → turned_away 29 0 ≡ range w squarings low high
        other-plan t = sym (last ∙ (rw t refl))

        pub answered : is_other ≡ false → {a : RangeAnswer} → a ≡ range_by accepted (judge w squarings low) (judge w squarings high) → a ≡ range w squarings low high
        answered t e = e ∙ sym (last ∙ (rw t refl))

-- ---- a sheet's own refusal, and the size that a caller names

module _ (w : ℕ) (low high : List ℕ) {n p : ℕ} where
  pub low-refused : check w low ≡ refused n p → turned_away n p ≡ range w squarings low high
  unfolding range range_check
  low-refused h = rw h refl

  pub high-refused : check w low ≡ accepted → check w high ≡ refused n p → turned_away n p ≡ range w squarings low high
  unfolding range range_check
  high-refused e h = rw (e, h) refl

module _ (s : ℕ) (low high : List ℕ) {n : Result Size Reason} (e : n ≡ name_of s) where
  pub range-unknown : {r : Reason} → n ≡ Err r → range_is (Err (refusal_of r)) ≡ range_sized s squarings low high
  unfolding range_sized
  range-unknown k = rw (why-unknown s e k) (unknown-size s e k _ (λ w. range w squarings low high))

  pub range-known : {z : Size} → n ≡ Ok z → {a : RangeAnswer} → a ≡ range (width_is z) squarings low high → a ≡ range_sized s squarings low high
  unfolding range_sized
  range-known k q = q ∙ known-size s e k _ (λ w. range w squarings low high)
