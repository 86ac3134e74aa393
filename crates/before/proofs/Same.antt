-- An older sheet, and today's definitions: a sheet without newer records is checked and judged as before, and has the same evidence; and what
-- was accepted still is. Over whatever a request replaced.
use Rattle.arithmetic.proofs.Basics.{ℕ, ◌*◌, ◌%◌, ◌≤◌, mul-le-mul_right, arith, ◌≡◌, refl, sym, ◌∙◌, Bool, true, false, not, ◌&&◌, ◌||◌, cond, List, [], ◌∷◌, ◌++◌}
use Rattle.arithmetic.proofs.Basics.{eqb, length, eqb-true, not-false, le-ltb, ltb-false, or-false, by-test, never}
use Rattle.rules.specs.Tools.{any, those}
use Rattle.rules.specs.Sheet.{Record, size, most, records, kind, heading}
use Rattle.rules.specs.Series.{Answer, refusal, judgement}
use Rattle.rules.specs.Refusals.{is_kind, Fault, fault, first, faults, fault_of_lem, accepted, refused, check_from, bad_length_lem, check}
use Rattle.rules.specs.Operations.{judge, evidence_by, evidence}
use Rattle.accepted.proofs.Faultless.{Clean, cond-accepted, sound}
use Rattle.answers.proofs.Answers.{check_in, judge-check}
use Rattle.before.specs.Operations.{Old, is_kept}
use Rattle.before.specs.Operations as old

abbrev pub refusal_in : Fault → ℕ
refusal_in (fault number present) = number

abbrev is_present : Fault → Bool
is_present (fault number present) = present

-- a fault that is present, on a line that is left out
abbrev pub is_left_out : Old → Fault → Bool
is_left_out o f = not (is_kept o f) && is_present f

-- what is asked of a request: it added to the number of records and to the kinds; its refusals are of newer records alone; and before the
-- first engine of a sheet without them stands what stood there
pub record Added (o : Old) (is_new : Record → Bool) : Type 0 where
  pub fewer : (w : ℕ) → o.most w ≤ most w
  pub kinds : (r : Record) → is_new r ≡ false → o.is_kind (kind r) ≡ is_kind (kind r)
  pub older : (r : Record) → o.is_kind (kind r) ≡ true → is_new r ≡ false
  pub absent : (w : ℕ) (before : List Record) (r : Record) → is_new r ≡ false → is_kind (kind r) ≡ true → any (is_left_out o) (faults w before r) ≡ false
  pub headed : (w : ℕ) (rs : List Record) → Clean w [] rs → any is_new rs ≡ false → heading rs ≡ o.heading rs

-- ---- one record

-- leaving out what is not present leaves the first that is
first-without : (o : Old) (fs : List Fault) → any (is_left_out o) fs ≡ false → first (those (is_kept o) fs) ≡ first fs
first-without o [] e = refl
first-without o (fault k present ∷ fs) e = at (is_kept o (fault k present)) present e (first-without o fs)
  where
    at : (kept present : Bool) → not kept && present || any (is_left_out o) fs ≡ false → (any (is_left_out o) fs ≡ false → first (those (is_kept o) fs) ≡ first fs)
        → first (cond kept (fault k present ∷ those (is_kept o) fs) (those (is_kept o) fs)) ≡ first (fault k present ∷ fs)
    at false true e ih = never e
    at false false e ih = ih e
    at true true e ih = refl
    at true false e ih = ih e

first_absent : (k : ℕ) (present : Bool) (fs : List Fault) → 1 ≤ k → first (fault k present ∷ fs) ≡ 0 → present ≡ false
first_absent k true fs l e = absurd (omega arith)
first_absent k false fs l e = refl

-- today's list begins with refusal 2
kind-first : (w : ℕ) (before : List Record) (r : Record) → is_kind (kind r) ≡ false → fault_of_lem w before r ≡ 2
unfolding fault_of_lem faults
kind-first w before r e = rw e refl

module _ {o : Old} {is_new : Record → Bool} (a : Added o is_new) where
  fault-same : (w : ℕ) (before : List Record) (r : Record) → is_new r ≡ false → fault_of_lem w before r ≡ first (old.faults o w before r)
  unfolding old.faults fault_of_lem
  fault-same w before r e =
      rw (a.kinds r e)
      (by-test (λ t. first (faults w before r) ≡ first (fault 2 (not t) ∷ those (is_kept o) (faults w before r))) (is_kind (kind r))
      (λ k. sym (first-without o (faults w before r) (a.absent w before r e k))) (λ k. kind-first w before r k))

  records-same : (w : ℕ) (before rs : List Record) → any is_new rs ≡ false → check_from w before rs ≡ old.check_from o w before rs
  unfolding check_from old.check_from
  records-same w before [] e = refl
  records-same w before (r ∷ rs) e =
      let n = or-false (is_new r) (any is_new rs) e in
      rw (fault-same w before r n.0, records-same w (before ++ (r ∷ [])) rs n.1) refl

  -- ---- the sheet

  length-same : (w n : ℕ) → n ≤ o.most w * size w → bad_length_lem w n ≡ old.bad_length_lem o w n
  unfolding bad_length_lem old.bad_length_lem
  length-same w n h =
      let l : n ≤ most w * size w = omega (arith, mul-le-mul_right (size w) (a.fewer w)) in
      rw (le-ltb (most w * size w) n l, le-ltb (o.most w * size w) n h) refl

  module _ (w : ℕ) (b : List ℕ) (few : length b ≤ o.most w * size w) (plain : any is_new (records w b) ≡ false) where
    pub check-same : check w b ≡ old.check o w b
    unfolding check old.check
    check-same = rw (length-same w (length b) few, records-same w [] (records w b) plain) refl

    pub judge-same : (q : ℕ) → judge w q b ≡ old.judge o w q b
    unfolding judge old.judge
    judge-same q = rw check-same refl

    -- a refused sheet has none, and the heading of an accepted one is as before
    evidence-by : (j : Answer) → (check_in j ≡ accepted → heading (records w b) ≡ o.heading (records w b)) → evidence_by w j b ≡ old.evidence_by o w j b
    evidence-by (refusal number place) h = refl
    evidence-by (judgement v n grounds ps) h = rw (h refl) refl

    pub evidence-same : (q : ℕ) → evidence w q b ≡ old.evidence o w q b
    unfolding evidence old.evidence
    evidence-same q =
        rw (← judge-same q)
        (evidence-by (judge w q b) (λ e. a.headed w (records w b) (sound w b (sym (judge-check w q b) ∙ e)).clean plain))

  -- ---- what was accepted has no newer record and was no longer, so that it is accepted, and judged as before

  records-were-plain : (w : ℕ) (before rs : List Record) → old.check_from o w before rs ≡ accepted → any is_new rs ≡ false
  unfolding old.check_from old.faults
  records-were-plain w before [] e = refl
  records-were-plain w before (r ∷ rs) e =
      let n = first (old.faults o w before r) in
      let after = old.check_from o w (before ++ (r ∷ [])) rs in
      by-test (λ t. cond t after (refused n (length before)) ≡ accepted → any is_new (r ∷ rs) ≡ false) (eqb n 0)
      (λ h f.
      let k = first_absent 2 (not (o.is_kind (kind r))) (those (is_kept o) (faults w before r)) (omega arith) (eqb-true n 0 h) in
      rw (a.older r (not-false _ k)) (records-were-plain w (before ++ (r ∷ [])) rs f))
      (λ h f. let z : true ≡ false = cc in never z) e

  module _ (w : ℕ) (b : List ℕ) (e : old.check o w b ≡ accepted) where
    pub was-plain : any is_new (records w b) ≡ false
    unfolding old.check
    was-plain = records-were-plain w [] (records w b) (cond-accepted 1 (old.bad_length_lem o w (length b)) (old.check_from o w [] (records w b)) e).1

    pub was-short : length b ≤ o.most w * size w
    unfolding old.check old.bad_length_lem
    was-short =
        let t = (cond-accepted 1 (old.bad_length_lem o w (length b)) (old.check_from o w [] (records w b)) e).0 in
        ltb-false (o.most w * size w) (length b) (or-false (eqb (length b) 0 || not (eqb (length b % size w) 0)) _ t).1

    pub still-accepted : check w b ≡ accepted
    still-accepted = check-same w b was-short was-plain ∙ e
