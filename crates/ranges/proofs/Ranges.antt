-- Document 02, F-8: what the answer for a low and a high sheet says of every sheet between them, about the bytes of whole sheets, whatever w and
-- q; the product's is at the end. It rests on demand 3: lowering measurements never makes a pass later or a fail sooner.
use Rattle.arithmetic.proofs.Basics.{ℕ, le_refl, arith, ◌≡◌, refl, sym, ap, ◌∙◌, ◌⊎◌, inl, inr, ⊎_elim, true, false, cond, List, [], ◌∷◌, eqb, length, eqb-true, never, by-test}
use Rattle.arithmetic.proofs.Pairs.{Pairs, pairs-length}
use mathlib.Core.Logic.{◌↔◌}
use Rattle.rules.specs.Logarithm.{squarings}
use Rattle.rules.specs.Sheet.{Record, records, run_in_kind, run_ins, plan_number}
use Rattle.rules.specs.Series.{Answer, refusal, judgement}
use Rattle.rules.specs.Refusals.{Check, accepted, refused, check}
use Rattle.rules.specs.Operations.{judge}
use Rattle.rules.specs.Demands.{Says, Accepted, PassesAt, FailsAt, PassesBy, FailsBy, Alike, SameZeroHours}
use Rattle.rules.specs.Sizes.{width, unknown_size}
use Rattle.rules.specs.Ranges.{Between, range_check, RangeAnswer, passes_surely, fails_surely, depends, turned_away, fails_or, passes_or, range, range_sized, outcome}
use Rattle.rules.specs.Ranges.{DecidedAt, EachPasses, EachFails, Latest}
use Rattle.accepted.proofs.Faultless.{sound}
use Rattle.answers.proofs.Answers.{accepted-judgement}
use Rattle.demands.proofs.Alike.{Same, records-same, of-kind, plan-same}
use Rattle.demands.proofs.Lowering.{sheet-passes, sheet-fails}
use Rattle.ranges.proofs.Tests.{alike-swap}
use Rattle.ranges.proofs.Given.{Given, OneOrThree, not-in-service, given}
use Rattle.ranges.proofs.Accepting.{between-checked}

-- ---- the answer by the two judgements

fails-only : (l : Answer) (n : ℕ) → fails_or l depends ≡ passes_surely n → ⊥
fails-only (refusal number place) n e = let z : true ≡ false = cc in never z
fails-only (judgement v m grounds pairs) n e =
    by-test (λ t. cond t (fails_surely m) depends ≡ passes_surely n → ⊥) (eqb v 2) (λ h f. let z : true ≡ false = cc in never z) (λ h f. let z : true ≡ false = cc in never z) e

pass-says : (h l : Answer) (n : ℕ) → passes_or h (fails_or l depends) ≡ passes_surely n → Says h 1 n
pass-says (refusal number place) l n e = let z : true ≡ false = cc in never z
pass-says (judgement v m grounds pairs) l n e =
    by-test (λ t. cond t (passes_surely m) (fails_or l depends) ≡ passes_surely n → Says (judgement v m grounds pairs) 1 n) (eqb v 1)
    (λ t f. let i : m ≡ n = cc in (grounds, pairs, rw (eqb-true v 1 t, i) refl)) (λ t f. absurd (fails-only l n f)) e

says-pass : (h l : Answer) (n : ℕ) → Says h 1 n → passes_or h (fails_or l depends) ≡ passes_surely n
says-pass h l n s = rw s.2 refl

fail-says : (h l : Answer) (n : ℕ) → passes_or h (fails_or l depends) ≡ fails_surely n → Says l 2 n
fail-says (refusal number place) l n e = let z : true ≡ false = cc in never z
fail-says (judgement v m grounds pairs) l n e =
    by-test (λ t. cond t (passes_surely m) (fails_or l depends) ≡ fails_surely n → Says l 2 n) (eqb v 1) (λ t f. let z : true ≡ false = cc in never z) (λ t. cases l) e
  where
    cases : (l : Answer) → fails_or l depends ≡ fails_surely n → Says l 2 n
    cases (refusal number place) f = let z : true ≡ false = cc in never z
    cases (judgement u k grounds pairs) f =
        by-test (λ t. cond t (fails_surely k) depends ≡ fails_surely n → Says (judgement u k grounds pairs) 2 n) (eqb u 2)
        (λ t f. let i : k ≡ n = cc in (grounds, pairs, rw (eqb-true u 2 t, i) refl)) (λ t f. let z : true ≡ false = cc in never z) f

-- a high sheet that fails does not pass
says-fail : (h l : Answer) (m n : ℕ) → Says h 2 m → Says l 2 n → passes_or h (fails_or l depends) ≡ fails_surely n
says-fail h l m n s t = rw (s.2, t.2) refl

-- one of the three, of two judgements
abbrev OneOfThree : RangeAnswer → Type 0
OneOfThree a = ((n : ℕ) × (a ≡ passes_surely n)) ⊎ (((n : ℕ) × (a ≡ fails_surely n)) ⊎ (a ≡ depends))

one_of_three : (h l : Answer) → (v : ℕ) × (n : ℕ) × Says h v n → (v : ℕ) × (n : ℕ) × Says l v n → OneOfThree (passes_or h (fails_or l depends))
one_of_three h l (v, n, s) (u, m, t) =
    rw (s.2, t.2)
    (by-test (λ b. OneOfThree (cond b (passes_surely n) (cond (eqb u 2) (fails_surely m) depends))) (eqb v 1) (λ e. inl (n, refl))
    (λ e. by-test (λ b. OneOfThree (cond b (fails_surely m) depends)) (eqb u 2) (λ f. inr (inl (m, refl))) (λ f. inr (inr refl))))

-- ---- run-in values: alike sheets have them both or neither

empty : (xs : List Record) → length xs ≡ 0 → xs ≡ []
empty [] e = refl
empty (x ∷ xs) e = absurd (omega arith)

module _ {w : ℕ} {rs ts : List Record} (same : Pairs (Same w) rs ts) where
  none-there : run_ins rs ≡ [] → run_ins ts ≡ []
  none-there e = empty (run_ins ts) (sym (pairs-length (of-kind same run_in_kind)) ∙ ap length e)

  none_here : run_ins ts ≡ [] → run_ins rs ≡ []
  none_here e = empty (run_ins rs) (pairs-length (of-kind same run_in_kind) ∙ ap length e)

-- ---- two sheets that are not turned away

module _ (w q : ℕ) (low high : List ℕ) (c : range_check w low high ≡ accepted) where
  facts : Given w low high
  facts = given w low high c

  lower : Pairs (Same w) (records w high) (records w low)
  lower = records-same w high low (alike-swap facts.alike) facts.ordered (sound w high facts.high_fine).whole

  plan-high : OneOrThree (plan_number (records w high))
  plan-high = rw (plan-same lower) facts.plan

  -- every sheet between is accepted
  between-fine : (S : List ℕ) → Between w low high S → check w S ≡ accepted
  between-fine S b = between-checked w low high S facts.low_fine facts.high_fine (not-in-service (plan_number (records w high)) plan-high) b

  pub each-accepted : (S : List ℕ) → Between w low high S → Accepted w q S
  each-accepted S b = accepted-judgement w q S (between-fine S b)

  -- the two sheets are between themselves
  itself : (b : List ℕ) → Alike w b b
  itself b = record { equally_long = refl; outside = λ j k h i e. refl }

  pub high-between : Between w low high high
  high-between =
      record {
        alike_low = alike-swap facts.alike;
        alike_high = itself high;
        not_below = facts.ordered;
        not_above = λ j p i k l u. le_refl _;
        zero_hours = λ run p l u. refl;
      }

  pub low-between : Between w low high low
  low-between =
      record {
        alike_low = itself low;
        alike_high = alike-swap facts.alike;
        not_below = λ j p i k l u. le_refl _;
        not_above = facts.ordered;
        zero_hours = λ run p l u. sym (facts.zero_hours (λ e. run (none_here lower e)) p l u);
      }

  -- a sheet between, below the high one and above the low one
  module _ (S : List ℕ) (b : Between w low high S) where
    below-high : Pairs (Same w) (records w high) (records w S)
    below-high = records-same w high S b.alike_high b.not_above (sound w high facts.high_fine).whole

    above_low : Pairs (Same w) (records w S) (records w low)
    above_low = records-same w S low b.alike_low b.not_below (sound w S (between-fine S b)).whole

    zero-hours-low : SameZeroHours w S low
    zero-hours-low run p l u =
        sym (b.zero_hours (λ e. run (none-there below-high e)) p l u ∙ facts.zero_hours (λ e. run (none_here above_low e)) p l u)

    -- the high sheet's pass is its own, and the low sheet's fail
    below-passes : (n : ℕ) → PassesAt w q high n → PassesBy w q S n
    below-passes n =
        sheet-passes w q high S b.alike_high b.not_above b.zero_hours plan-high (each-accepted high high-between) (each-accepted S b) n

    above-fails : (n : ℕ) → FailsAt w q low n → FailsBy w q S n
    above-fails n =
        sheet-fails w q S low b.alike_low b.not_below zero-hours-low (rw (plan-same below-high) at plan-high) (each-accepted S b)
        (each-accepted low low-between) n

  -- the answer is read off the two
  range-is : range w q low high ≡ passes_or (judge w q high) (fails_or (judge w q low) depends)
  unfolding range
  range-is = rw c refl

  pub passes-high : (n : ℕ) → (range w q low high ≡ passes_surely n) ↔ PassesAt w q high n
  passes-high n = (
    (λ e. pass-says (judge w q high) (judge w q low) n (sym range-is ∙ e)),
    (λ p. range-is ∙ says-pass (judge w q high) (judge w q low) n p),
  )

  pub fails-low : (n : ℕ) → (range w q low high ≡ fails_surely n) ↔ FailsAt w q low n
  fails-low n = (
    (λ e. fail-says (judge w q high) (judge w q low) n (sym range-is ∙ e)),
    (λ p. let t = above-fails high high-between n p in range-is ∙ says-fail (judge w q high) (judge w q low) t.0 n t.2 p),
  )

  -- "The first holds exactly when every sheet between them passes, the second exactly when every one fails"
  pub passes-exactly : ((n : ℕ) × (range w q low high ≡ passes_surely n)) ↔ EachPasses w q low high
  passes-exactly = (
    (λ e S b. let p = below-passes S b e.0 ((passes-high e.0).0 e.1) in (p.0, p.2)),
    (λ f. let p = f high high-between in (p.0, (passes-high p.0).1 p.1)),
  )

  pub fails-exactly : ((n : ℕ) × (range w q low high ≡ fails_surely n)) ↔ EachFails w q low high
  fails-exactly = (
    (λ e S b. let p = above-fails S b e.0 ((fails-low e.0).0 e.1) in (p.0, p.2)),
    (λ f. let p = f low low-between in (p.0, (fails-low p.0).1 p.1)),
  )

  -- "in these two cases give the latest engine at which any of them is decided"
  decided-at : (b : List ℕ) (v n : ℕ) → (v ≡ 1) ⊎ (v ≡ 2) → Says (judge w q b) v n → DecidedAt w q b n
  decided-at b v n (inl e) s = ((v, n, (λ z. omega arith), (λ z. omega arith), s), (v, s))
  decided-at b v n (inr e) s = ((v, n, (λ z. omega arith), (λ z. omega arith), s), (v, s))

  pub passes-latest : (n : ℕ) → range w q low high ≡ passes_surely n → Latest w q low high n
  passes-latest n e =
      let p = (passes-high n).0 e in (
        (λ S b. let t = below-passes S b n p in (t.0, t.1, decided-at S 1 t.0 (inl refl) t.2)),
        (high, high-between, decided-at high 1 n (inl refl) p),
      )

  pub fails-latest : (n : ℕ) → range w q low high ≡ fails_surely n → Latest w q low high n
  fails-latest n e =
      let p = (fails-low n).0 e in (
        (λ S b. let t = above-fails S b n p in (t.0, t.1, decided-at S 2 t.0 (inr refl) t.2)),
        (low, low-between, decided-at low 2 n (inr refl) p),
      )

  -- "or depends": where neither holds; and both never hold
  answers : OneOfThree (range w q low high)
  answers = rw range-is (one_of_three (judge w q high) (judge w q low) (each-accepted high high-between) (each-accepted low low-between))

  pub depends-exactly : (range w q low high ≡ depends) ↔ ((EachPasses w q low high → ⊥) × (EachFails w q low high → ⊥))
  depends-exactly = (
    (λ e. ((λ p. let t = (passes-exactly.1 p).1 in let z : true ≡ false = cc in never z), (λ f. let t = (fails-exactly.1 f).1 in let z : true ≡ false = cc in never z))),
    (λ n. ⊎_elim (λ p. absurd (n.0 (passes-exactly.0 p))) (⊎_elim (λ f. absurd (n.1 (fails-exactly.0 f))) (λ e. e)) answers),
  )

  pub never_both : EachPasses w q low high → EachFails w q low high → ⊥
  never_both p f =
      let t = (passes-exactly.1 p).1 in
      let u = (fails-exactly.1 f).1 in
      let z : true ≡ false = cc in
      never z

  answered : outcome (range w q low high) ≡ accepted
  answered = ⊎_elim (λ p. rw p.1 refl) (⊎_elim (λ f. rw f.1 refl) (λ e. rw e refl)) answers

-- what is turned away, and by which number and record, the check of the two tells
pub range-checked : (w q : ℕ) (low high : List ℕ) → outcome (range w q low high) ≡ range_check w low high
unfolding range
range-checked w q low high = cases (range_check w low high) refl
  where
    cases : (c : Check) → range_check w low high ≡ c → outcome (range w q low high) ≡ c
    cases accepted e = answered w q low high e
    cases (refused number place) e = rw e refl

-- ---- as the product has it: by the size that a caller names, at twenty squarings

module _ (s : ℕ) (low high : List ℕ) where
  abbrev w : ℕ
  w = width s

  abbrev answer : RangeAnswer
  answer = range_sized s squarings low high

  -- the size is known where the call is not turned away, and the answer is that for its pollutants
  known : (a : RangeAnswer) → outcome a ≡ accepted → answer ≡ a → (range w squarings low high ≡ a) × (range_check w low high ≡ accepted)
  unfolding range_sized
  known a o e =
      by-test (λ t. cond t (turned_away 30 0) (range w squarings low high) ≡ a → (range w squarings low high ≡ a) × (range_check w low high ≡ accepted)) (unknown_size s)
      (λ t f. let z : true ≡ false = cc (ap outcome f) in never z) (λ t f. (f, sym (range-checked w squarings low high) ∙ ap outcome f ∙ o)) e

  pub between-accepted : outcome answer ≡ accepted → (S : List ℕ) → Between w low high S → Accepted w squarings S
  between-accepted o = each-accepted w squarings low high (known answer o refl).1

  pub surely-passes : (n : ℕ) → answer ≡ passes_surely n → EachPasses w squarings low high × Latest w squarings low high n
  surely-passes n e = let k = known (passes_surely n) refl e in ((passes-exactly w squarings low high k.1).0 (n, k.0), passes-latest w squarings low high k.1 n k.0)

  pub surely-fails : (n : ℕ) → answer ≡ fails_surely n → EachFails w squarings low high × Latest w squarings low high n
  surely-fails n e = let k = known (fails_surely n) refl e in ((fails-exactly w squarings low high k.1).0 (n, k.0), fails-latest w squarings low high k.1 n k.0)

  pub neither-surely : answer ≡ depends → (EachPasses w squarings low high → ⊥) × (EachFails w squarings low high → ⊥)
  neither-surely e = let k = known depends refl e in (depends-exactly w squarings low high k.1).0 k.0
