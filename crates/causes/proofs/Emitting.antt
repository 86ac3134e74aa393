-- What comes before a row's statistics: which rows end or hold the series, and which are looked at.
use Rattle.arithmetic.proofs.Basics.{ℕ, suc, ◌+◌, ◌≤◌, ◌<◌, arith, ◌≡◌, refl, ap, ◌∙◌, Bool, true, false, not, ◌&&◌, ◌||◌, cond, List, [], ◌∷◌, ◌++◌, leb, ltb}
use Rattle.arithmetic.proofs.Basics.{eqb, length, get_or, take, length-append, take-suc, never, eqb-true, eqb-false}
use Rattle.arithmetic.proofs.Basics.{or_same, or_assoc, by-test, not-ltb, leb-same, those-append, any-those}
use mir.Val.{bool_byte}
use Rattle.std.specs.List.{list_any, range_with_len}
use Rattle.rules.specs.Tools.{any, those}
use Rattle.rules.specs.Sheet.{Record}
use Rattle.rules.specs.Plans.{Plan, Row}
use Rattle.rules.specs.Series as rules
use Rattle.accepted.specs.Sheets.{pollutants_in, engines_in}
use Rattle.accepted.proofs.Causes.{has_cause, Caused}
use Rattle.accepted.proofs.Sheets.{is_in_service}
use Rattle.accepted.proofs.BeforeRows.{caused-cut, no-cause, pick, repeats_of, pending_of, referral_by, left_by, before-is}
use Rattle.columns.specs.Columns.{turned, closes}
use Rattle.causes.specs.Causes.{cause_in, before_in, first_row_lem}

-- ---- what is counted

module _ {A : Type 0} (test : A → Bool) where
  -- a test and its opposite count all
  pub those-not : (xs : List A) → length (those test xs) + length (those (λ x. not (test x)) xs) ≡ length xs
  those-not [] = refl
  those-not (x ∷ xs) =
      by-test (λ b. length (cond b (x ∷ those test xs) (those test xs)) + length (cond (not b) (x ∷ those (λ y. not (test y)) xs) (those (λ y. not (test y)) xs)) ≡ suc (length xs))
      (test x) (λ e. omega (arith, those-not xs)) (λ e. omega (arith, those-not xs))

  -- one more of the list
  pub those-next : (xs : List A) (k : ℕ) (d : A) → k < length xs
      → those test (take (suc k) xs) ≡ those test (take k xs) ++ cond (test (get_or xs k d)) (get_or xs k d ∷ []) []
  those-next xs k d h = rw (take-suc xs k d h) (those-append test (take k xs) (get_or xs k d ∷ []))

  pub count_next : (xs : List A) (k : ℕ) (d : A) → k < length xs
      → length (those test (take (suc k) xs)) ≡ length (those test (take k xs)) + bool_byte (test (get_or xs k d))
  count_next xs k d h =
      rw (those-next xs k d h, length-append)
      (by-test (λ t. length (those test (take k xs)) + length (cond t (get_or xs k d ∷ []) []) ≡ length (those test (take k xs)) + bool_byte t)
      (test (get_or xs k d)) (λ e. refl) (λ e. refl))

-- ---- a row ends or holds the series from row 3 on, by equal cause, a pending finding or referral

pub closes-pick : (a b p c d : Bool) → closes (pick a b p c d) ≡ not a && (b || (p || c))
closes-pick true b p c d = refl
closes-pick false true p c d = refl
closes-pick false false true c d = refl
closes-pick false false false true d = refl
closes-pick false false false false true = refl
closes-pick false false false false false = refl

-- ---- a row that neither ends nor holds the series is looked at, or it is open

-- rows are looked at from 3, or from 4 where one of the first three vehicles is a gross emitter
looked-from : (es : List Record) (n : ℕ) → not (left_by n (take n es)) && leb 3 n ≡ leb (cond (any has_cause (take 3 es)) 4 3) n
looked-from es n =
    by-test (λ t. not (t && any has_cause (take n es)) && leb 3 n ≡ leb (cond (any has_cause (take 3 es)) 4 3) n) (eqb n 3)
    (λ e. rw (eqb-true n 3 e) (by-test (λ t. not t && true ≡ leb (cond t 4 3) 3) (any has_cause (take 3 es)) (λ f. refl) (λ f. refl)))
    (λ e. let h = eqb-false n 3 e in
    by-test (λ t. leb 3 n ≡ leb (cond t 4 3) n) (any has_cause (take 3 es)) (λ f. leb-same 3 n 4 n ((λ l. omega arith), (λ l. omega arith))) (λ f. refl))

module _ (w : ℕ) (b : List ℕ) (n : ℕ) where
  pub row-looked : (plan : Plan) → Caused (is_in_service plan) (pollutants_in w b) (engines_in w b) → closes (before_in w plan b n) ≡ false → (r : Row)
      → turned (before_in w plan b n) n r rules.is_open ≡ cond (leb (first_row_lem w b) n) (rules.decided_at n r) rules.is_open
  unfolding first_row_lem
  row-looked plan c e r =
      let es = engines_in w b in
      let first : List Record = take n es in
      let is = before-is (pollutants_in w b) n first plan (caused-cut (is_in_service plan) (pollutants_in w b) n es c).0 in
      rw (is, ← (looked-from es n), ← (not-ltb n 3))
      (cases (ltb n 3) (repeats_of first) (pending_of first) (referral_by n first) (left_by n first) (rw is at e))
    where
      cases : (a b p c d : Bool) → closes (pick a b p c d) ≡ false
          → turned (pick a b p c d) n r rules.is_open ≡ cond (not d && not a) (rules.decided_at n r) rules.is_open
      cases true b p c true l = refl
      cases true b p c false l = refl
      cases false true p c d l = never l
      cases false false true c d l = never l
      cases false false false true d l = never l
      cases false false false false true l = refl
      cases false false false false false l = refl

-- ---- the first row that is looked at

-- in plans 1 to 3 and 5 there is no cause
pub first_plain : (w : ℕ) (b : List ℕ) → Caused false (pollutants_in w b) (engines_in w b) → 3 ≡ first_row_lem w b
unfolding first_row_lem
first_plain w b c =
    let first : List Record = take 3 (engines_in w b) in
    rw (any-those has_cause first, no-cause (pollutants_in w b) first (caused-cut false (pollutants_in w b) 3 (engines_in w b) c).0) refl

-- in plan 4 the first three vehicles are asked, one by one
pub first_by : (w : ℕ) (b : List ℕ) → 3 ≤ length (engines_in w b)
    → cond ((not (eqb (cause_in w b 0) 0) || not (eqb (cause_in w b 1) 0)) || not (eqb (cause_in w b 2) 0)) 4 3 ≡ first_row_lem w b
unfolding first_row_lem
first_by w b h = ap (λ t. cond t 4 3) (three (engines_in w b) h)
  where
    three : (es : List Record) → 3 ≤ length es → (has_cause (get_or es 0 []) || has_cause (get_or es 1 [])) || has_cause (get_or es 2 []) ≡ any has_cause (take 3 es)
    three [] l = absurd (omega arith)
    three (x ∷ []) l = absurd (omega arith)
    three (x ∷ y ∷ []) l = absurd (omega arith)
    three (x ∷ y ∷ z ∷ es) l = rw (or_same (has_cause z), or_assoc (has_cause x) (has_cause y) (has_cause z)) refl

-- the same where they are asked from 0 on
pub first_asked : (w : ℕ) (b : List ℕ) → 3 ≤ length (engines_in w b)
    → {r : Bool} → r ≡ list_any (λ k. not (eqb (cause_in w b k) 0)) (range_with_len 0 3) → cond r 4 3 ≡ first_row_lem w b
first_asked w b h e =
    let asked : ℕ → Bool = λ k. not (eqb (cause_in w b k) 0) in
    ap (λ t. cond t 4 3) (e ∙ in_order (asked 0) (asked 1) (asked 2)) ∙ first_by w b h
  where
    in_order : (x y z : Bool) → x || (y || (z || false)) ≡ (x || y) || z
    in_order x y z = rw (or_same z, or_assoc x y z) refl
