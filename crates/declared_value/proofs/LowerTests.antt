-- Document 02, F-4: "Where the declared value stood after k tests, with some of them lower it stands for their first k or for a shorter
-- beginning of them."
use Rattle.arithmetic.proofs.Basics.{ℕ, zero, suc, ◌+◌, ◌-◌, ◌*◌, ◌≤◌, ◌<◌, arith, zero-add, suc-add, ◌≡◌, refl, sym, ◌∙◌}
use Rattle.arithmetic.proofs.Basics.{Bool, true, false, ◌&&◌, cond, ltb, le-leb, leb-true, in-range, never, or-false, and-follows, by-test}
use Rattle.arithmetic.proofs.Basics.{List, [], ◌∷◌, length, take, take-take, length-take, length-take-le}
use Rattle.arithmetic.proofs.Booleans.{or-follows}
use Rattle.arithmetic.proofs.Pairs.{Pairs, none, more, pairs-take, pairs-length}
use Rattle.rules.specs.Tools.{any, sum}
use Rattle.rules.specs.Logarithm.{greatest, outside}
use Rattle.rules.specs.DeclaredValue.{another, value, refusal, most_tests, mean_fits, stands, decided, bad_count, bad_value_lem, after_decision, approve}
use Rattle.declared_value.proofs.Standing.{InOrder, unrefused, count-inside}

-- the declared value stands: the answer is "declared value and 1"
abbrev pub Stands : (d : ℕ) → List ℕ → Type 0
Stands d ts = approve d ts ≡ value d 1

-- a test, and another in its place: lower or the same, and not below the range
abbrev pub NotHigher : (x y : ℕ) → Type 0
NotHigher x y = (1 ≤ y) × (y ≤ x)

-- ---- what the answer tells of the tests

-- nothing is refused
ordered : (d : ℕ) (ts : List ℕ) → Stands d ts → InOrder d ts
unfolding approve
ordered d ts e = let o = chain (bad_count ts) (bad_value_lem d ts) (after_decision d ts) e in record { count = o.0; values = o.1; time = o.2 }
  where
    chain : (a b c : Bool) → cond a (refusal 20) (cond b (refusal 21) (cond c (refusal 22) (decided d ts))) ≡ value d 1
        → (a ≡ false) × (b ≡ false) × (c ≡ false)
    chain true b c e = let z : ◌≡◌ {A = ℕ} 0 1 = cc in absurd (omega arith)
    chain false true c e = let z : ◌≡◌ {A = ℕ} 0 1 = cc in absurd (omega arith)
    chain false false true e = let z : ◌≡◌ {A = ℕ} 0 1 = cc in absurd (omega arith)
    chain false false false e = (refl, refl, refl)

-- and the declared value stands by all of them
standing : (d : ℕ) (ts : List ℕ) → Stands d ts → stands d (length ts) ts ≡ true
unfolding decided
standing d ts e = chain (stands d (length ts) ts) (ltb (length ts) most_tests) (sym (unrefused (ordered d ts e)) ∙ e)
  where
    chain : (s n : Bool) → cond s (value d 1) (cond n another (value (sum ts) most_tests)) ≡ value d 1 → s ≡ true
    chain true n e = refl
    chain false true e = let z : ◌≡◌ {A = ℕ} 0 1 = cc in absurd (omega arith)
    chain false false e = let z : ◌≡◌ {A = ℕ} 3 1 = cc in absurd (omega arith)

-- ---- tests that are not higher: their sum is not, so the declared value stands by as many; and they are in range

sum-lower : {xs ys : List ℕ} → Pairs NotHigher xs ys → sum ys ≤ sum xs
unfolding sum
sum-lower none = omega arith
sum-lower (more h r) = omega (arith, sum-lower r, h.1)

fits-lower : {xs ys : List ℕ} (d k : ℕ) → Pairs NotHigher xs ys → mean_fits d k xs ≡ true → mean_fits d k ys ≡ true
unfolding mean_fits
fits-lower {xs} {ys} d k p e =
    le-leb (100 * sum (take k ys)) (104 * (k * d)) (omega (arith, sum-lower (pairs-take k p), leb-true (100 * sum (take k xs)) (104 * (k * d)) e))

stands-lower : {xs ys : List ℕ} (d k : ℕ) → Pairs NotHigher xs ys → stands d k xs ≡ true → stands d k ys ≡ true
unfolding stands
stands-lower d zero p e = e
stands-lower {xs} {ys} d (suc k) p e =
    let may = ltb (suc k) most_tests in
    or-follows (stands d k xs) (may && mean_fits d (suc k) xs) (stands d k ys) (may && mean_fits d (suc k) ys) (stands-lower d k p)
    (and-follows may (mean_fits d (suc k) xs) may (mean_fits d (suc k) ys) (λ t. t) (fits-lower d (suc k) p)) e

inside-lower : {xs ys : List ℕ} → Pairs NotHigher xs ys → any outside xs ≡ false → any outside ys ≡ false
inside-lower none e = e
inside-lower (more {x} {y} {xs} {ys} h r) e =
    let o = or-false (outside x) (any outside xs) e in
    let l : y ≤ greatest = omega (arith, h.1, in-range 1 greatest x o.0) in
    rw (le-leb 1 y h.0, le-leb y greatest l, inside-lower r o.1) refl

-- ---- the shortest beginning by which the declared value stands

stands-take : (d i j : ℕ) (ts : List ℕ) → i ≤ j → stands d i (take j ts) ≡ stands d i ts
unfolding stands mean_fits
stands-take d zero j ts h = refl
stands-take d (suc i) j ts h = rw (stands-take d i j ts (omega arith), take-take (suc i) j ts h) refl

inside_take : (k : ℕ) (ts : List ℕ) → any outside ts ≡ false → any outside (take k ts) ≡ false
inside_take zero ts e = refl
inside_take (suc k) [] e = refl
inside_take (suc k) (t ∷ ts) e = let o = or-false (outside t) (any outside ts) e in rw (o.0, inside_take k ts o.1) refl

module _ (d : ℕ) (ts : List ℕ) (in-range : bad_value_lem d ts ≡ false) where
  -- it stands not by the first k, but by one more: then that is the answer for them
  one_more : (k : ℕ) → suc k ≤ most_tests → suc k ≤ length ts → stands d k ts ≡ false → stands d (suc k) ts ≡ true → Stands d (take (suc k) ts)
  unfolding decided bad_count bad_value_lem after_decision
  one_more k m l e f =
      let n : length (take (suc k) ts) ≡ suc k = length-take-le (suc k) ts l in
      let o = or-false (outside d) (any outside ts) in-range in
      let z : suc k - 1 ≡ k = omega arith in
      unrefused (record {
        count = rw (n, le-leb 1 (suc k) (omega arith), le-leb (suc k) most_tests m) refl;
        values = rw (o.0, inside_take (suc k) ts o.1) refl;
        time = rw (n, z) (stands-take d k (suc k) ts (omega arith) ∙ e);
      })
      ∙ rw (n, stands-take d (suc k) (suc k) ts (omega arith) ∙ f) refl

  shortest : (k : ℕ) → k ≤ most_tests → k ≤ length ts → stands d k ts ≡ true → (j : ℕ) × (j ≤ k) × Stands d (take j ts)
  unfolding stands
  shortest zero m l e = never (sym e)
  shortest (suc k) m l e =
      by-test (λ t. stands d k ts ≡ t → (j : ℕ) × (j ≤ suc k) × Stands d (take j ts)) (stands d k ts)
      (λ t u. let s = shortest k (omega arith) (omega arith) t in (s.0, omega (arith, s.1), s.2))
      (λ t u. (suc k, omega arith, one_more k m l t e)) refl

-- ---- the theorem

-- The declared value d stands for the first k of the tests xs; the tests ys are as many, and none is higher than the one of xs in its place.
-- Then it stands for the first k of ys, or for fewer.
pub lower-tests : {xs ys : List ℕ} (d k : ℕ) → Stands d (take k xs) → Pairs NotHigher xs ys → (j : ℕ) × (j ≤ k) × Stands d (take j ys)
unfolding bad_value_lem
lower-tests {xs} {ys} d k e p =
    let t = ordered d (take k xs) e in
    let q = pairs-take k p in
    let o = or-false (outside d) (any outside (take k xs)) t.values in
    let n = length (take k xs) in
    let few : n ≤ k = omega (arith, length-take k xs) in
    let r : bad_value_lem d (take k ys) ≡ false = rw (o.0, inside-lower q o.1) refl in
    let s = shortest d (take k ys) r n (count-inside (take k xs) t.count).1 (omega (arith, pairs-length q)) (stands-lower d n q (standing d (take k xs) e)) in
    let h : s.0 ≤ k = omega (arith, s.1) in
    (s.0, h, rw (take-take s.0 k ys h) at s.2)

-- ---- and why fewer: "22, a test after the decision"

-- what stands by j tests stands by i more
stands_on : (d i j : ℕ) (ts : List ℕ) → stands d j ts ≡ true → stands d (i + j) ts ≡ true
unfolding stands
stands_on d zero j ts e = rw (zero-add j) e
stands_on d (suc i) j ts e = rw (suc-add i j, stands_on d i j ts e) refl

-- where the declared value stands for fewer tests than there are, one to three in range, they are refused
pub later-refused : (d j : ℕ) (ts : List ℕ) → bad_count ts ≡ false → bad_value_lem d ts ≡ false → j < length ts → Stands d (take j ts) → approve d ts ≡ refusal 22
unfolding approve after_decision
later-refused d j ts c v h e =
    let n : length (take j ts) ≡ j = length-take-le j ts (omega arith) in
    let s : stands d j ts ≡ true = sym (stands-take d j j ts (omega arith)) ∙ (rw n at (standing d (take j ts) e)) in
    let k : length ts - 1 ≡ (length ts - 1 - j) + j = omega arith in
    rw (c, v, k, stands_on d (length ts - 1 - j) j ts s) refl
