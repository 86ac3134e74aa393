-- Demand 3, "about what judging answers for the bytes of whole sheets, all pollutants together, and not about single rows".
-- The words are those of document 01 and of 02, F-2 and F-5, defined in rules/specs/Demands. Every list of bytes is meant, whatever w and q;
-- the product's are at the end.
use Rattle.arithmetic.proofs.Basics.{ℕ, ◌≤◌, arith, ◌≡◌, ◌⊎◌, inl, inr, ⊎_elim, List}
use Rattle.rules.specs.Logarithm.{squarings}
use Rattle.rules.specs.Sheet.{pollutants, more_pollutants, records, plan_number}
use Rattle.rules.specs.Plans.{last_row_lem}
use Rattle.rules.specs.Operations.{judge}
use Rattle.rules.specs.Demands.{Accepted, Decided, Held, PassesAt, FailsAt, PassesBy, FailsBy, Begins, engines_of, Pending, plan_of_sheet}
use Rattle.rules.specs.Demands.{Alike, NoneHigher, NotRunIn, SameZeroHours}
use Rattle.demands.proofs.Ended.{sheet-kept, sheet-ends}
use Rattle.demands.proofs.Held.{held-pending, final-so}
use Rattle.demands.proofs.Lowering.{sheet-passes, sheet-fails}

module _ (w q : ℕ) where
  -- A sheet once decided keeps its answers in every accepted sheet that begins with it.
  pub decision-kept : (R S : List ℕ) → Begins S R → Decided w q R → Accepted w q S → judge w q S ≡ judge w q R
  decision-kept R S b d = sheet-kept w q R S b (d.0, d.1, d.2, d.4)

  -- So does a held sheet, though it counts as undecided: vehicles behind the row at which it is held are counted for nothing.
  pub held_kept : (R S : List ℕ) → Begins S R → Held w q R → Accepted w q S → judge w q S ≡ judge w q R
  held_kept R S b h = sheet-kept w q R S b (4, h.0, (λ z. omega arith), h.1)

  -- Every accepted sheet with as many engines as its plan's last row is decided; 02, F-5: "a full sheet with a pending vehicle may be held".
  pub series-ends : (b : List ℕ) → Accepted w q b → engines_of w b ≡ last_row_lem (plan_of_sheet w b) → Decided w q b ⊎ (Held w q b × Pending w b)
  series-ends b a e = ⊎_elim inl (λ h. inr (h, held-pending w q b h)) (final-so w q b (sheet-ends w q b a e))

  -- Two accepted sheets in plan 1 or 3, alike in all but the measurements, none higher in the second.
  -- (The bytes of a limit and a deviation, 4 to 11, lie in a record where the format has room for two pollutants.)
  module _ (room : 2 ≤ w) (R S : List ℕ) (alike : Alike w R S) (lower : NoneHigher w R S)
      (plan : (plan_number (records w R) ≡ 1) ⊎ (plan_number (records w R) ≡ 3))
      (first : Accepted w q R) (second : Accepted w q S) (n : ℕ) where
    -- 02, F-2: "On a run-in sheet the run-in values are measurements too; lowering keeps its meaning there if the first engine's zero-hour
    -- values are the same in both sheets." (Of other sheets the condition asks nothing. That it is needed is computed in cases/specs/RunIn.)
    module _ (zero_hours : SameZeroHours w R S) where
      -- If the first passes at n, the second passes at n or sooner.
      pub lower-passes-run-in : PassesAt w q R n → PassesBy w q S n
      lower-passes-run-in = sheet-passes w q R S alike lower zero_hours plan first second n

      -- If the second fails at n, by a row or by a stop, the first fails at n or sooner.
      pub lower-fails-run-in : FailsAt w q S n → FailsBy w q R n
      lower-fails-run-in = sheet-fails w q R S alike lower zero_hours plan first second n

    -- Without a record of kind 6, whatever the first engine's values.
    module _ (plain : NotRunIn w R) where
      pub lower-passes : PassesAt w q R n → PassesBy w q S n
      lower-passes = lower-passes-run-in (λ run. absurd (run plain))

      pub lower-fails : FailsAt w q S n → FailsBy w q R n
      lower-fails = lower-fails-run-in (λ run. absurd (run plain))

-- ---- as the product has it: four pollutants or six, twenty squarings; 02, F-10: "Keeping a decision, ending and lowering hold for either size"

module _ (w : ℕ) (either : (w ≡ pollutants) ⊎ (w ≡ more_pollutants)) where
  pub kept : (R S : List ℕ) → Begins S R → Decided w squarings R → Accepted w squarings S → judge w squarings S ≡ judge w squarings R
  kept = decision-kept w squarings

  pub kept-held : (R S : List ℕ) → Begins S R → Held w squarings R → Accepted w squarings S → judge w squarings S ≡ judge w squarings R
  kept-held = held_kept w squarings

  pub ends : (b : List ℕ) → Accepted w squarings b → engines_of w b ≡ last_row_lem (plan_of_sheet w b)
      → Decided w squarings b ⊎ (Held w squarings b × Pending w b)
  ends = series-ends w squarings

  module _ (R S : List ℕ) (alike : Alike w R S) (lower : NoneHigher w R S)
      (plan : (plan_number (records w R) ≡ 1) ⊎ (plan_number (records w R) ≡ 3))
      (first : Accepted w squarings R) (second : Accepted w squarings S) (n : ℕ) where
    room : 2 ≤ w
    room = ⊎_elim (λ e. omega arith) (λ e. omega arith) either

    module _ (zero_hours : SameZeroHours w R S) where
      pub passes-no-later-run-in : PassesAt w squarings R n → PassesBy w squarings S n
      passes-no-later-run-in = lower-passes-run-in w squarings room R S alike lower plan first second n zero_hours

      pub fails-no-sooner-run-in : FailsAt w squarings S n → FailsBy w squarings R n
      fails-no-sooner-run-in = lower-fails-run-in w squarings room R S alike lower plan first second n zero_hours

    module _ (plain : NotRunIn w R) where
      pub passes-no-later : PassesAt w squarings R n → PassesBy w squarings S n
      passes-no-later = lower-passes w squarings room R S alike lower plan first second n plain

      pub fails-no-sooner : FailsAt w squarings S n → FailsBy w squarings R n
      fails-no-sooner = lower-fails w squarings room R S alike lower plan first second n plain
