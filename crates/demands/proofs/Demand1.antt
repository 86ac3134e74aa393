-- Demand 1, "any bytes of any length are judged, or refused with a number and a record": every list of bytes is refused with a
-- number 1 to 12 or 16 to 19 and a record below the greatest number of records, or judged with a verdict 0 to 4, an engine at most the
-- last row, a ground 0 to 5 and a pair for each pollutant; a judgement only where the check accepts.
-- Every list of bytes is meant, whatever w and q; the product's are at the end. (That "a refused call writes to no buffer" is in the
-- contracts of `appending` and `reporting`.)
use Rattle.arithmetic.proofs.Basics.{ℕ, ◌≤◌, ◌<◌, le_trans, arith, ◌≡◌, refl, sym, ap, ◌∙◌, true, ◌⊎◌, inl, inr, List, [], length}
use Rattle.rules.specs.Logarithm.{squarings}
use Rattle.rules.specs.Sheet.{pollutants, more_pollutants, most, records, of_kind}
use Rattle.rules.specs.Plans.{last_row_lem}
use Rattle.rules.specs.Series.{Pair, Answer, refusal, judgement}
use Rattle.rules.specs.Refusals.{accepted, refused, check}
use Rattle.rules.specs.Operations.{judge}
use Rattle.rules.specs.Demands.{engines_of, plan_of_sheet}
use Rattle.accepted.proofs.Faultless.{sound}
use Rattle.accepted.proofs.Sheets.{engines-after}
use Rattle.answers.proofs.Answers.{check_in, judge-check, judge-accepted, judgement-accepted}
use Rattle.answers.proofs.Ranges.{is_refusal, RefusalIn, check-range, JudgementIn, judgement-range}

module _ (w q : ℕ) where
  -- refusals "1 to 12", 16 to 18 of 02, F-1, and 19 of F-2: "It returns number and record counted from 0", of records "at most 37", with
  -- F-1 and F-2 39
  abbrev pub Refused : List ℕ → Type 0
  Refused b =
      (number : ℕ) × (place : ℕ)
      × (judge w q b ≡ refusal number place) × (check w b ≡ refused number place)
      × (is_refusal number ≡ true) × (place < most w)

  -- "Judging answers verdict (0 another .. 3 referred), engine .., ground (0 none .. 4 referred) and for each pollutant decision .. and
  -- engine", and of 02, F-5, verdict 4 with ground 5: v, n, ground and the pairs, and only for a sheet that the check accepts
  abbrev pub Judged : List ℕ → Type 0
  Judged b =
      (v : ℕ) × (n : ℕ) × (grounds : ℕ) × (pairs : List Pair)
      × (judge w q b ≡ judgement v n grounds pairs) × (check w b ≡ accepted)
      × (v ≤ 4) × (n ≤ last_row_lem (plan_of_sheet w b)) × (grounds ≤ 5) × (length pairs ≡ w)

  -- "10, more engines than the last row"
  engines-fit : (b : List ℕ) → check w b ≡ accepted → engines_of w b ≤ last_row_lem (plan_of_sheet w b)
  unfolding of_kind
  engines-fit b c = engines-after w [] (records w b) (sound w b c).clean (omega arith)

  pub refused-or-judged : (b : List ℕ) → Refused b ⊎ Judged b
  refused-or-judged b = cases (judge w q b) refl
    where
      cases : (a : Answer) → judge w q b ≡ a → Refused b ⊎ Judged b
      cases (refusal number place) e =
          let c : check w b ≡ refused number place = sym (judge-check w q b) ∙ ap check_in e in
          let r : RefusalIn (most w) (refused number place) = rw c at (check-range w b) in
          inl (number, place, e, c, r.0, r.1)
      cases (judgement v n grounds pairs) e =
          let c = judgement-accepted w q b e in
          let r : JudgementIn w (engines_of w b) (judgement v n grounds pairs) =
          rw (sym (judge-accepted w q b c) ∙ e) at (judgement-range w q (records w b)) in
          inr (v, n, grounds, pairs, e, c, r.0, le_trans r.1 (engines-fit b c), r.2, r.3)

-- ---- as the product has it: four pollutants or six, twenty squarings

module _ (w : ℕ) (either : (w ≡ pollutants) ⊎ (w ≡ more_pollutants)) where
  pub answered : (b : List ℕ) → Refused w squarings b ⊎ Judged w squarings b
  answered = refused-or-judged w squarings
