-- Document 02, F-2: sheets without kind 6, of up to the 38 records that there were before it, are judged as before; for all bytes, every
-- number w of pollutants and every q. The product's are at the end.
use Rattle.arithmetic.proofs.Basics.{ℕ, ◌*◌, ◌≤◌, arith, ◌≡◌, refl, ap, ◌∙◌, true, false, List, [], ◌∷◌, map, append-nil, length, or_same}
use Rattle.rules.specs.Tools.{any}
use Rattle.rules.specs.Logarithm.{squarings}
use Rattle.rules.specs.Sheet.{Record, pollutants, more_pollutants, size, records, run_in_kind, kind, heading}
use Rattle.rules.specs.Refusals.{is_kind, faults, accepted, bad_length_lem, check}
use Rattle.rules.specs.Operations.{judge, evidence}
use Rattle.accepted.proofs.Faultless.{Clean, of_kind-none}
use Rattle.accepted.proofs.Engines.{heading-parts, one-small-engine}
use Rattle.sizes.proofs.Columns.{clean-above}
use Rattle.sizes.proofs.Counted.{few-and-small}
use Rattle.before.specs.Operations as old
use Rattle.before.specs.SmallEngines.{small_engines_lem, is_new}
use Rattle.before.proofs.Same as same
use Rattle.before.proofs.Same.{refusal_in, is_left_out, Added}
use Rattle.before.proofs.Longer.{RefusedByRecord, Fits, accepted-before, more-is-refused}
use Rattle.before.proofs.EachKind.{kinds-are, not-such}

-- ---- what F-2 added

-- the list without it is document 01's with 16 to 18, which F-1 has "after 3"
pub older-list-running-in : (w : ℕ) (before : List Record) (r : Record)
    → map refusal_in (old.faults small_engines_lem w before r) ≡ 2 ∷ 3 ∷ 16 ∷ 17 ∷ 18 ∷ 4 ∷ 5 ∷ 6 ∷ 7 ∷ 8 ∷ 9 ∷ 10 ∷ 11 ∷ 12 ∷ []
unfolding old.faults faults
older-list-running-in w before r = refl

older-kinds : (r : Record) → is_new r ≡ false → small_engines_lem.is_kind (kind r) ≡ is_kind (kind r)
older-kinds r e = rw (kinds-are (kind r), e, or_same) refl

not-newer : (r : Record) → small_engines_lem.is_kind (kind r) ≡ true → is_new r ≡ false
not-newer r e = not-such small_engines_lem.is_kind (kind r) run_in_kind refl e

-- refusal 19 is of kind 6 alone
none-left-out : (w : ℕ) (before : List Record) (r : Record) → is_new r ≡ false → is_kind (kind r) ≡ true → any (is_left_out small_engines_lem) (faults w before r) ≡ false
unfolding faults
none-left-out w before r e k = rw (k, e) refl

heading-as-before : (w : ℕ) (rs : List Record) → Clean w [] rs → any is_new rs ≡ false → heading rs ≡ small_engines_lem.heading rs
heading-as-before w rs c e = heading-parts w [] rs c ∙ rw (of_kind-none run_in_kind rs e, append-nil) refl

pub run-ins : Added small_engines_lem is_new
run-ins = record {
  fewer = λ w. omega arith;
  kinds = older-kinds;
  older = not-newer;
  absent = none-left-out;
  headed = heading-as-before;
}

-- ---- sheets without kind 6, of no more records than before

module _ (w : ℕ) (b : List ℕ) (few : length b ≤ small_engines_lem.most w * size w) (plain : any is_new (records w b) ≡ false) where
  pub check-as-before-running-in : check w b ≡ old.check small_engines_lem w b
  check-as-before-running-in = same.check-same run-ins w b few plain

  pub judged-as-before-running-in : (q : ℕ) → judge w q b ≡ old.judge small_engines_lem w q b
  judged-as-before-running-in = same.judge-same run-ins w b few plain

  pub evidence-as-before-running-in : (q : ℕ) → evidence w q b ≡ old.evidence small_engines_lem w q b
  evidence-as-before-running-in = same.evidence-same run-ins w b few plain

-- what was accepted is such a sheet
pub still-accepted-running-in : (w : ℕ) (b : List ℕ) → old.check small_engines_lem w b ≡ accepted → check w b ≡ accepted
still-accepted-running-in = same.still-accepted run-ins

-- and a longer one is accepted by its kind 6 alone
pub no-more-records-running-in : Fits small_engines_lem is_new
no-more-records-running-in w rs c e =
    omega (arith, few-and-small w w rs c (clean-above w rs c), one-small-engine w [] rs c, ap length (of_kind-none run_in_kind rs e))

pub accepted-before-running-in : (w : ℕ) (b : List ℕ) → any is_new (records w b) ≡ false → check w b ≡ accepted → old.check small_engines_lem w b ≡ accepted
accepted-before-running-in = accepted-before run-ins no-more-records-running-in

-- ---- as the product has it: 38 records of 20 bytes, and 40 of 28

module _ (b : List ℕ) where
  module _ (few : length b ≤ 760) (plain : any is_new (records pollutants b) ≡ false) where
    pub twenty-judged-running-in : judge pollutants squarings b ≡ old.judge small_engines_lem pollutants squarings b
    twenty-judged-running-in = judged-as-before-running-in pollutants b few plain squarings

    pub twenty-evidence-running-in : evidence pollutants squarings b ≡ old.evidence small_engines_lem pollutants squarings b
    twenty-evidence-running-in = evidence-as-before-running-in pollutants b few plain squarings

  module _ (few : length b ≤ 1120) (plain : any is_new (records more_pollutants b) ≡ false) where
    pub twenty-eight-judged-running-in : judge more_pollutants squarings b ≡ old.judge small_engines_lem more_pollutants squarings b
    twenty-eight-judged-running-in = judged-as-before-running-in more_pollutants b few plain squarings

    pub twenty-eight-evidence-running-in : evidence more_pollutants squarings b ≡ old.evidence small_engines_lem more_pollutants squarings b
    twenty-eight-evidence-running-in = evidence-as-before-running-in more_pollutants b few plain squarings

  -- one more of either
  pub twenty-refused-running-in : length b ≡ 780 → any is_new (records pollutants b) ≡ false → RefusedByRecord (check pollutants b)
  unfolding bad_length_lem
  twenty-refused-running-in e plain = more-is-refused run-ins no-more-records-running-in pollutants b plain (rw e refl) (omega arith)

  pub twenty-eight-refused-running-in : length b ≡ 1148 → any is_new (records more_pollutants b) ≡ false → RefusedByRecord (check more_pollutants b)
  unfolding bad_length_lem
  twenty-eight-refused-running-in e plain = more-is-refused run-ins no-more-records-running-in more_pollutants b plain (rw e refl) (omega arith)
