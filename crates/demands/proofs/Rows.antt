-- The rows of plans 1 and 3 fall with each measurement, and with the run-in value where the first engine's stays: where none is higher, a
-- row is no worse.
-- ("Taking plan 2 as falling with each measurement" is one of the readings that tempt and are wrong.)
use Rattle.arithmetic.proofs.Basics.{ℕ, suc, ◌+◌, ◌-◌, ◌*◌, ◌/◌, ◌^◌, ◌≤◌, mul-le-mul, mul-le-mul_right, arith, ◌≡◌, refl, sym, ap, Bool, true, false}
use Rattle.arithmetic.proofs.Basics.{not, cond, List, ◌∷◌, leb, ltb, eqb, length, ℤ, pos, neg_ℤ, ◌*ℤ◌, lt_z, le_z, le-leb, leb-true, never, and-follows, cond-follows}
use Rattle.rules.specs.Tools.{total}
use Rattle.rules.specs.Logarithm.{greatest, g, Correction, d, D}
use Rattle.rules.specs.Plans.{Plan, known_deviation_lem, attributes, Row, pass, fail, undecided, decide, known_a, known_b, log_of_two}
use Rattle.rules.specs.Plans.{known_passes, known_fails, count_over, attributes_passes, attributes_fails, row_passes}
use Rattle.rules.specs.Plans.{row_fails, row}
use Rattle.logarithm.proofs.Rising.{rising}
use Rattle.arithmetic.proofs.Integers.{Diff, plus, minus, diff-move, diff-of, diff-pos, diff-neg, diff-add, diff-minus}
use Rattle.arithmetic.proofs.Integers.{diff-mul, lt-fact, lt_test, le-fact, le_test}
use Rattle.arithmetic.proofs.Pairs.{Pairs, none, more}

-- the order of rows: pass, then undecided, then fail
pub data RowLe : (second first : Row) → Type 0 where
  best : {r : Row} → RowLe pass r
  even : RowLe undecided undecided
  worst : {r : Row} → RowLe r fail

-- a measurement and one of the second sheet that is not higher, both in range
abbrev pub NotHigher : (x y : ℕ) → Type 0
NotHigher x y = (1 ≤ y) × (y ≤ x) × (x ≤ greatest)

abbrev pub Lower : (xs ys : List ℕ) → Type 0
Lower xs ys = Pairs NotHigher xs ys

-- what the two sheets correct by: the same measurement of the first engine, and a run-in value that is not higher in the second
abbrev pub CorrectionLe : (second first : Correction) → Type 0
CorrectionLe e c = (e.first ≡ c.first) × NotHigher c.value e.value

-- a row is no worse where a pass stays one, and a fail was one before
decide-lower : (p₂ p₁ last f₂ f₁ : Bool) → (p₁ ≡ true → p₂ ≡ true) → (f₂ ≡ true → f₁ ≡ true)
    → RowLe (decide p₂ last f₂) (decide p₁ last f₁)
unfolding decide
decide-lower true p₁ last f₂ f₁ h k = best
decide-lower false true last f₂ f₁ h k = never (sym (h refl))
decide-lower false false true f₂ f₁ h k = worst
decide-lower false false false f₂ true h k = worst
decide-lower false false false true false h k = never (sym (k refl))
decide-lower false false false false false h k = even

-- ---- plan 1: D falls

d-diff : (q L : ℕ) (c : Correction) (x : ℕ) → Diff (d q L c x) (g q x + g q c.value) (g q c.first + g q L)
d-diff q L c x =
    diff-move (diff-minus (diff-minus (diff-add (diff-pos (g q x)) (diff-pos (g q c.value))) (diff-pos (g q c.first))) (diff-pos (g q L)))
    (omega arith)

D-lower : {xs ys : List ℕ} (q L : ℕ) (e c : Correction) → CorrectionLe e c → Lower xs ys → le_z (D q L e ys) (D q L c xs) ≡ true
unfolding total
D-lower q L e c k none = refl
D-lower q L e c k (more {x} {y} {xs} {ys} h r) =
    let m = rising q y x h.0 h.1 h.2 in
    let v = rising q e.value c.value k.1.0 k.1.1 k.1.2 in
    let f : g q e.first ≡ g q c.first = ap (g q) k.0 in
    let i = le-fact (diff-of (D q L e ys)) (diff-of (D q L c xs)) (D-lower q L e c k r) in
    le_test (diff-add (d-diff q L e y) (diff-of (D q L e ys))) (diff-add (d-diff q L c x) (diff-of (D q L c xs))) (omega arith)

turned : (z : ℤ) (k : ℕ) → Diff (neg_ℤ z *ℤ pos k) (minus z * k) (plus z * k)
turned z k = diff-move (diff-mul (diff-neg (diff-of z)) (diff-pos k)) (omega arith)

module _ (y z : ℤ) (le : le_z y z ≡ true) (x : ℤ) (k : ℕ) where
  above_lower : lt_z x (neg_ℤ z *ℤ pos k) ≡ true → lt_z x (neg_ℤ y *ℤ pos k) ≡ true
  above_lower h =
      lt_test (diff-of x) (turned y k)
      (omega (arith, lt-fact (diff-of x) (turned z k) h, mul-le-mul_right k (le-fact (diff-of y) (diff-of z) le)))

  below-lower : lt_z (neg_ℤ y *ℤ pos k) x ≡ true → lt_z (neg_ℤ z *ℤ pos k) x ≡ true
  below-lower h =
      lt_test (turned z k) (diff-of x)
      (omega (arith, lt-fact (turned y k) (diff-of x) h, mul-le-mul_right k (le-fact (diff-of y) (diff-of z) le)))

-- ---- plan 3: the count falls

leb-follows : (a b c d : ℕ) → (a ≤ b → c ≤ d) → leb a b ≡ true → leb c d ≡ true
leb-follows a b c d f e = le-leb c d (f (leb-true a b e))

one_more : (b a : Bool) (y x : ℕ) (ys xs : List ℕ) → (b ≡ true → a ≡ true) → length ys ≤ length xs
    → length (cond b (y ∷ ys) ys) ≤ length (cond a (x ∷ xs) xs)
one_more true a y x ys xs f h = rw (f refl) (omega arith)
one_more false true y x ys xs f h = omega arith
one_more false false y x ys xs f h = h

count-lower : {xs ys : List ℕ} (L : ℕ) (e c : Correction) → CorrectionLe e c → Lower xs ys → count_over L e ys ≤ count_over L c xs
count-lower L e c k none = omega arith
count-lower L e c k (more {x} {y} h r) =
    let f : L * e.first ≡ L * c.first = ap (λ (z : ℕ). L * z) k.0 in
    let m : y * e.value ≤ x * c.value = mul-le-mul h.1 k.1.1 in
    one_more (ltb (L * e.first) (y * e.value)) (ltb (L * c.first) (x * c.value)) y x _ _
    (leb-follows (suc (L * e.first)) (y * e.value) (suc (L * c.first)) (x * c.value) (λ l. omega arith)) (count-lower L e c k r)

module _ (n c c' : ℕ) (h : c ≤ c') where
  attributes-pass : attributes_passes n c' ≡ true → attributes_passes n c ≡ true
  unfolding attributes_passes
  attributes-pass =
      cond-follows (eqb n 19) (leb-follows c' 8 c 8 (λ l. omega arith))
      (and-follows (not (eqb n 3)) _ _ _ (λ e. e) (leb-follows c' ((n - 4) / 2) c ((n - 4) / 2) (λ l. omega arith)))

  attributes-fail : attributes_fails n c ≡ true → attributes_fails n c' ≡ true
  unfolding attributes_fails
  attributes-fail = cond-follows (eqb n 19) (leb-follows 9 c 9 c' (λ l. omega arith)) (leb-follows (n / 2 + 2) c (n / 2 + 2) c' (λ l. omega arith))

-- ---- the row

-- the plans that fall
pub data Falling : Plan → Type 0 where
  known-falls : Falling known_deviation_lem
  attributes-fall : Falling attributes

pub row-lower : {plan : Plan} {xs ys : List ℕ} (q n L t : ℕ) (e c : Correction) → Falling plan → CorrectionLe e c → Lower xs ys
    → RowLe (row plan q n L t e ys) (row plan q n L t c xs)
unfolding row row_passes row_fails known_passes known_fails
row-lower {plan} {xs} {ys} q n L t e c known-falls k h =
    let l = D-lower q L e c k h in
    decide-lower _ _ _ _ _
    (above_lower (D q L e ys) (D q L c xs) l (known_a n *ℤ pos t *ℤ pos (2 ^ q)) log_of_two)
    (below-lower (D q L e ys) (D q L c xs) l (known_b n *ℤ pos t *ℤ pos (2 ^ q)) log_of_two)
row-lower {plan} {xs} {ys} q n L t e c attributes-fall k h =
    let l = count-lower L e c k h in
    decide-lower _ _ _ _ _ (attributes-pass n (count_over L e ys) (count_over L c xs) l) (attributes-fail n (count_over L e ys) (count_over L c xs) l)
