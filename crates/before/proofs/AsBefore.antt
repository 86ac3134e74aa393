-- Document 02, F-1: "Sheets of up to 37 records without kind 5 are judged as before", and without kind 6, which came later; for all bytes,
-- every number w of pollutants and every q. The product's are at the end.
use Rattle.arithmetic.proofs.Basics.{ℕ, ◌*◌, ◌≤◌, arith, ◌≡◌, refl, sym, ap, ◌∙◌, true, false, List, [], ◌∷◌, map, append-nil, eqb, length}
use Rattle.arithmetic.proofs.Basics.{or-false, or_same, any-or}
use Rattle.rules.specs.Tools.{any}
use Rattle.rules.specs.Logarithm.{squarings}
use Rattle.rules.specs.Sheet.{Record, pollutants, more_pollutants, size, records, small_engine_kind, run_in_kind, kind, heading}
use Rattle.rules.specs.Refusals.{is_kind, faults, accepted, bad_length_lem, check}
use Rattle.rules.specs.Operations.{judge, evidence}
use Rattle.accepted.proofs.Faultless.{Clean, of_kind-none}
use Rattle.accepted.proofs.Engines.{heading-parts}
use Rattle.sizes.proofs.Columns.{clean-above}
use Rattle.sizes.proofs.Counted.{few-and-small}
use Rattle.before.specs.Operations as old
use Rattle.before.specs.Document.{document, is_new}
use Rattle.before.proofs.Same as same
use Rattle.before.proofs.Same.{refusal_in, is_left_out, Added}
use Rattle.before.proofs.Longer as longer
use Rattle.before.proofs.Longer.{RefusedByRecord, Fits, more-is-refused}
use Rattle.before.proofs.EachKind.{kinds-are, not-such}

-- ---- what was added to document 01

-- the list without it is document 01's, refusals 2 to 12 in the order of their numbers
pub older-list : (w : ℕ) (before : List Record) (r : Record) → map refusal_in (old.faults document w before r) ≡ 2 ∷ 3 ∷ 4 ∷ 5 ∷ 6 ∷ 7 ∷ 8 ∷ 9 ∷ 10 ∷ 11 ∷ 12 ∷ []
unfolding old.faults faults
older-list w before r = refl

neither : (r : Record) → is_new r ≡ false → (eqb (kind r) small_engine_kind ≡ false) × (eqb (kind r) run_in_kind ≡ false)
neither r e = or-false (eqb (kind r) small_engine_kind) (eqb (kind r) run_in_kind) e

older-kinds : (r : Record) → is_new r ≡ false → document.is_kind (kind r) ≡ is_kind (kind r)
older-kinds r e = let n = neither r e in rw (kinds-are (kind r), n.0, n.1) (simp or_same)

not-newer : (r : Record) → document.is_kind (kind r) ≡ true → is_new r ≡ false
not-newer r e =
    rw (not-such document.is_kind (kind r) small_engine_kind refl e, not-such document.is_kind (kind r) run_in_kind refl e) refl

-- refusals 16 to 18 are of kind 5 alone, and 19 of kind 6
none-left-out : (w : ℕ) (before : List Record) (r : Record) → is_new r ≡ false → is_kind (kind r) ≡ true → any (is_left_out document) (faults w before r) ≡ false
unfolding faults
none-left-out w before r e k = let n = neither r e in rw (k, n.0, n.1) refl

-- without either kind: what Uncorrected.antt says of a sheet without kind 6 is of these sheets too
pub none-new : (rs : List Record) → any is_new rs ≡ false
    → (any (λ r. eqb (kind r) small_engine_kind) rs ≡ false) × (any (λ r. eqb (kind r) run_in_kind) rs ≡ false)
none-new rs e = or-false _ _ (sym (any-or (λ r. eqb (kind r) small_engine_kind) (λ r. eqb (kind r) run_in_kind) rs) ∙ e)

heading-as-before : (w : ℕ) (rs : List Record) → Clean w [] rs → any is_new rs ≡ false → heading rs ≡ document.heading rs
heading-as-before w rs c e =
    let n = none-new rs e in
    heading-parts w [] rs c ∙ rw (of_kind-none small_engine_kind rs n.0, of_kind-none run_in_kind rs n.1, append-nil) refl

pub added : Added document is_new
added = record {
  fewer = λ w. omega arith;
  kinds = older-kinds;
  older = not-newer;
  absent = none-left-out;
  headed = heading-as-before;
}

-- ---- "Sheets of up to 37 records without kind 5"

module _ (w : ℕ) (b : List ℕ) (few : length b ≤ document.most w * size w) (plain : any is_new (records w b) ≡ false) where
  pub check-as-before : check w b ≡ old.check document w b
  check-as-before = same.check-same added w b few plain

  pub judged-as-before : (q : ℕ) → judge w q b ≡ old.judge document w q b
  judged-as-before = same.judge-same added w b few plain

  pub evidence-as-before : (q : ℕ) → evidence w q b ≡ old.evidence document w q b
  evidence-as-before = same.evidence-same added w b few plain

-- what was accepted is such a sheet
pub still-accepted : (w : ℕ) (b : List ℕ) → old.check document w b ≡ accepted → check w b ≡ accepted
still-accepted = same.still-accepted added

-- and a longer one is accepted by its kind 5 or 6 alone
pub no-more-records : Fits document is_new
no-more-records w rs c e =
    let n = none-new rs e in
    omega (arith, few-and-small w w rs c (clean-above w rs c), ap length (of_kind-none small_engine_kind rs n.0), ap length (of_kind-none run_in_kind rs n.1))

pub accepted-before : (w : ℕ) (b : List ℕ) → any is_new (records w b) ≡ false → check w b ≡ accepted → old.check document w b ≡ accepted
accepted-before = longer.accepted-before added no-more-records

-- ---- as the product has it: 37 records of 20 bytes, and 39 of 28

module _ (b : List ℕ) where
  module _ (few : length b ≤ 740) (plain : any is_new (records pollutants b) ≡ false) where
    pub twenty-judged : judge pollutants squarings b ≡ old.judge document pollutants squarings b
    twenty-judged = judged-as-before pollutants b few plain squarings

    pub twenty-evidence : evidence pollutants squarings b ≡ old.evidence document pollutants squarings b
    twenty-evidence = evidence-as-before pollutants b few plain squarings

  module _ (few : length b ≤ 1092) (plain : any is_new (records more_pollutants b) ≡ false) where
    pub twenty-eight-judged : judge more_pollutants squarings b ≡ old.judge document more_pollutants squarings b
    twenty-eight-judged = judged-as-before more_pollutants b few plain squarings

    pub twenty-eight-evidence : evidence more_pollutants squarings b ≡ old.evidence document more_pollutants squarings b
    twenty-eight-evidence = evidence-as-before more_pollutants b few plain squarings

  -- one more of either
  pub twenty-refused : length b ≡ 760 → any is_new (records pollutants b) ≡ false → RefusedByRecord (check pollutants b)
  unfolding bad_length_lem
  twenty-refused e plain = more-is-refused added no-more-records pollutants b plain (rw e refl) (omega arith)

  pub twenty-eight-refused : length b ≡ 1120 → any is_new (records more_pollutants b) ≡ false → RefusedByRecord (check more_pollutants b)
  unfolding bad_length_lem
  twenty-eight-refused e plain = more-is-refused added no-more-records more_pollutants b plain (rw e refl) (omega arith)
