-- The widened and the narrowed form of a sheet's bytes: their records, their check, their answer and their evidence.
use Rattle.arithmetic.proofs.Basics.{ℕ, ◌+◌, ◌*◌, ◌%◌, ◌≤◌, mul-mod_right, mul-le-mul_left, lt_of_mul-lt-mul_right, div-le_of_le-mul, arith, ◌≡◌, refl, sym}
use Rattle.arithmetic.proofs.Basics.{ap, ◌∙◌, false, ◌||◌, cond, List, [], map, eqb, length, take, ne_eqb, le-ltb, by-test}
use Rattle.arithmetic.proofs.Pairs.{none, pairs-length}
use Rattle.rules.specs.Sheet.{size, most, records, of_kind, heading, declared}
use Rattle.rules.specs.Series.{Answer, refusal, judgement, judge_records}
use Rattle.rules.specs.Refusals.{accepted, check_from, bad_length_lem, check}
use Rattle.rules.specs.Operations.{judge, through, evidence_by, evidence}
use Rattle.rules.specs.Sizes.{open_pairs}
use Rattle.rules.specs.Converter.{widened_record, narrowed_record, widen, narrow, above, declares_above}
use Rattle.accepted.proofs.Records.{whole-records, length-records}
use Rattle.accepted.proofs.Faultless.{sound, cond-accepted}
use Rattle.answers.proofs.Answers.{judge-accepted}
use Rattle.sizes.proofs.Joined.{full-take, take-joined, full-records, joined-whole, records-joined, joined-records}
use Rattle.sizes.proofs.SameBytes.{same-widened, same-heading, same-declared, same-judgement}
use Rattle.sizes.proofs.Columns.{own-above, judge-columns}
use Rattle.sizes.proofs.Widened.{check-widened, length-widened, narrowed-again}
use Rattle.sizes.proofs.Narrowed.{widened-again, length-narrowed}
use Rattle.sizes.proofs.Counted.{few}
use Rattle.sizes.proofs.Mapped.{length-mapped, take-mapped, records-mapped}

-- ---- the check of bytes, from its parts

module _ (w : ℕ) (b : List ℕ) where
  accepted-so : (m : ℕ) → length b ≡ size w * m → 1 ≤ m → m ≤ most w → check_from w [] (records w b) ≡ accepted → check w b ≡ accepted
  unfolding check bad_length_lem
  accepted-so m e l h c =
      rw (
        ne_eqb (length b) 0 (λ z. omega (arith, mul-le-mul_left (size w) l)),
        le-ltb (most w * size w) (length b) (omega (arith, mul-le-mul_left (size w) h)),
        ap (λ (n : ℕ). n % size w) e ∙ mul-mod_right (size w) m,
      ) c

  module _ (e : check w b ≡ accepted) where
    records-accepted : check_from w [] (records w b) ≡ accepted
    unfolding check
    records-accepted = (cond-accepted 1 (bad_length_lem w (length b)) (check_from w [] (records w b)) e).1

    some-records : 1 ≤ length (records w b)
    some-records =
        let i = whole-records (size w) (length b) (sound w b e).whole in
        rw (length-records w b) (lt_of_mul-lt-mul_right (size w) (omega (arith, i, (sound w b e).some)))

    most-records : length (records w b) ≤ most w
    most-records = rw (length-records w b) (div-le_of_le-mul (size w) {m = length b} {n = most w} (omega (arith, (sound w b e).longest)))

-- ---- the two forms of any bytes

module _ (w k : ℕ) (b : List ℕ) where
  records-widen : records (w + k) (widen w k b) ≡ map (widened_record k) (records w b)
  unfolding widen
  records-widen = records-mapped w (w + k) (widened_record k) (length-widened w k) b

  records-narrow : records w (narrow w k b) ≡ map (narrowed_record w) (records (w + k) b)
  unfolding narrow
  records-narrow = records-mapped (w + k) w (narrowed_record w) (length-narrowed w k) b

  -- as many records, each of the other size
  pub length-widen : length (widen w k b) ≡ size (w + k) * length (records w b)
  unfolding widen
  length-widen = length-mapped w (size (w + k)) (widened_record k) (length-widened w k) b

  pub length-narrow : length (narrow w k b) ≡ size w * length (records (w + k) b)
  unfolding narrow
  length-narrow = length-mapped (w + k) (size w) (narrowed_record w) (length-narrowed w k) b

  pub narrow-widen : length b % size w ≡ 0 → narrow w k (widen w k b) ≡ b
  unfolding narrow
  narrow-widen h = rw (records-widen, narrowed-again w k (records w b) (full-records w b)) (joined-records w b h)

  -- the widened form declares what the sheet does
  declares-widen : declares_above w k (widen w k b) ≡ above w (declared (records w b))
  unfolding declares_above
  declares-widen = rw records-widen (sym (ap (above w) (same-declared (same-widened k (records w b)))))

  -- and where that is none above w, the check and judging find the same
  module _ (o : above w (declared (records w b)) ≡ false) where
    check-widen : check_from (w + k) [] (records (w + k) (widen w k b)) ≡ check_from w [] (records w b)
    unfolding declared of_kind
    check-widen = rw records-widen (check-widened w k none (same-widened k (records w b)) refl o (full-records w b))

    judge-widen : (q : ℕ) → judge_records (w + k) q (records (w + k) (widen w k b)) ≡ open_pairs k (judge_records w q (records w b))
    judge-widen q = rw records-widen (sym (same-judgement (w + k) q (same-widened k (records w b))) ∙ judge-columns w k q (records w b) o)

-- ---- the widened form of an accepted sheet

module _ (w k : ℕ) (b : List ℕ) (e : check w b ≡ accepted) where
  pub widen-accepted : check (w + k) (widen w k b) ≡ accepted
  widen-accepted =
      accepted-so (w + k) (widen w k b) (length (records w b)) (length-widen w k b) (some-records w b e) (omega (arith, most-records w b e))
      (check-widen w k b (own-above w b e) ∙ records-accepted w b e)

  pub widen-judged : (q : ℕ) → judge (w + k) q (widen w k b) ≡ open_pairs k (judge w q b)
  widen-judged q =
      judge-accepted (w + k) q (widen w k b) widen-accepted ∙ judge-widen w k b (own-above w b e) q ∙ ap (open_pairs k) (sym (judge-accepted w q b e))

  pub widen-undeclared : declares_above w k (widen w k b) ≡ false
  widen-undeclared = declares-widen w k b ∙ own-above w b e

  through-widen : (n : ℕ) → through (w + k) n (widen w k b) ≡ widen w k (through w n b)
  unfolding widen
  through-widen n =
      let c : length (heading (records (w + k) (widen w k b))) ≡ length (heading (records w b)) =
      rw (records-widen w k b) (sym (pairs-length (same-heading (same-widened k (records w b))))) in
      rw c (take-mapped w (size (w + k)) (widened_record k) (length-widened w k) b (length (heading (records w b)) + n) (sound w b e).whole)

  widen-nothing : widen w k [] ≡ []
  unfolding widen
  widen-nothing = rw (records-joined w [] tt) refl

  evidence-widen : (a : Answer) → evidence_by (w + k) (open_pairs k a) (widen w k b) ≡ widen w k (evidence_by w a b)
  evidence-widen (refusal number place) = sym widen-nothing
  evidence-widen (judgement v n grounds ps) =
      by-test (λ t. cond t (through (w + k) n (widen w k b)) (widen w k b) ≡ widen w k (cond t (through w n b) b)) (eqb grounds 1 || eqb grounds 2)
      (λ _. through-widen n) (λ _. refl)

  pub widen-evidence : (q : ℕ) → evidence (w + k) q (widen w k b) ≡ widen w k (evidence w q b)
  unfolding evidence
  widen-evidence q = rw (widen-judged q) (evidence-widen (judge w q b))

-- ---- evidence is whole records

module _ (w : ℕ) (b : List ℕ) (h : length b % size w ≡ 0) where
  take_whole : (m : ℕ) → length (take (size w * m) b) % size w ≡ 0
  take_whole m =
      ap (λ (x : List ℕ). length (take (size w * m) x) % size w) (sym (joined-records w b h))
      ∙ rw (take-joined (size w) m (records w b) (full-records w b)) (joined-whole w (take m (records w b)) (full-take (size w) m (records w b) (full-records w b)))

  whole_by : (a : Answer) → length (evidence_by w a b) % size w ≡ 0
  whole_by (refusal number place) = joined-whole w [] tt
  whole_by (judgement v n grounds ps) =
      by-test (λ t. length (cond t (through w n b) b) % size w ≡ 0) (eqb grounds 1 || eqb grounds 2)
      (λ _. take_whole (length (heading (records w b)) + n)) (λ _. h)

  evidence-whole : (q : ℕ) → length (evidence w q b) % size w ≡ 0
  unfolding evidence
  evidence-whole q = whole_by (judge w q b)

-- ---- the narrowed form of an accepted sheet that declares none above w

module _ (w k : ℕ) (room : 2 ≤ w) (b : List ℕ) (e : check (w + k) b ≡ accepted) (o : declares_above w k b ≡ false) where
  none_above : above w (declared (records (w + k) b)) ≡ false
  unfolding declares_above
  none_above = o

  pub widen-narrow : widen w k (narrow w k b) ≡ b
  unfolding widen declared of_kind
  widen-narrow =
      rw (
        records-narrow w k b,
        widened-again w k room [] (records (w + k) b) (full-records (w + k) b) (sound (w + k) b e).clean refl none_above,
      ) (joined-records (w + k) b (sound (w + k) b e).whole)

  pub narrow-few : length (records (w + k) b) ≤ most w
  narrow-few = few (w + k) w (records (w + k) b) (sound (w + k) b e).clean none_above

  pub narrow-accepted : check w (narrow w k b) ≡ accepted
  narrow-accepted =
      let a : above w (declared (records w (narrow w k b))) ≡ false = sym (declares-widen w k (narrow w k b)) ∙ rw widen-narrow o in
      accepted-so w (narrow w k b) (length (records (w + k) b)) (length-narrow w k b) (some-records (w + k) b e) narrow-few
      (sym (check-widen w k (narrow w k b) a) ∙ rw widen-narrow (records-accepted (w + k) b e))

  pub narrow-judged : (q : ℕ) → judge (w + k) q b ≡ open_pairs k (judge w q (narrow w k b))
  narrow-judged q = ap (judge (w + k) q) (sym widen-narrow) ∙ widen-judged w k (narrow w k b) narrow-accepted q

  pub narrow-evidence : (q : ℕ) → evidence w q (narrow w k b) ≡ narrow w k (evidence (w + k) q b)
  narrow-evidence q =
      sym
      (ap (λ (x : List ℕ). narrow w k (evidence (w + k) q x)) (sym widen-narrow)
      ∙ ap (narrow w k) (widen-evidence w k (narrow w k b) narrow-accepted q)
      ∙ narrow-widen w k (evidence w q (narrow w k b)) (evidence-whole w (narrow w k b) (sound w (narrow w k b) narrow-accepted).whole q))
