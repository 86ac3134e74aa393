-- Tests over lists: what `any` and `those` say of joined lists, and of one element more; and tests of the numbers below one.
use Prim.Native.Nat.{ℕ, zero, suc, ◌≤◌, ◌<◌}
use native.Mathlib.Omega.{arith}
use mathlib.Core.Path.{◌≡◌, refl, sym, ap, ◌∙◌}
use mathlib.Core.Logic.{⊎_elim}
use mathlib.Core.Bool.{Bool, true, false, ◌||◌, cond}
use mathlib.Core.List.{List, [], ◌∷◌, ◌++◌, map}
use lib.Dec.{leb, eqb}
use lib.ListN.{length, get_or, take, drop}
use lib.Seq.{take-nil}
use borrow.Author.Tests.{eqb-true, eqb-false, le-leb}
use Rattle.rules.specs.Tools.{any, some, those}
use Rattle.arithmetic.proofs.Booleans.{or-false, or_same, or-true, or_assoc, or-between, or_right, or-follows, by-test}
use Rattle.arithmetic.proofs.Order.{lt-or-ge}

module _ {A : Type 0} (test : A → Bool) where
  pub any_append : (xs ys : List A) → any test (xs ++ ys) ≡ any test xs || any test ys
  any_append [] ys = refl
  any_append (x ∷ xs) ys = rw (any_append xs ys) (or_assoc (test x) (any test xs) (any test ys))

  pub any_snoc : (xs : List A) (y : A) → any test (xs ++ (y ∷ [])) ≡ any test xs || test y
  any_snoc xs y = rw (any_append xs (y ∷ []), or_same (test y)) refl

  pub any_left : (xs ys : List A) → any test xs ≡ true → any test (xs ++ ys) ≡ true
  any_left xs ys e = rw (any_append xs ys, e) refl

  pub any_last : (xs : List A) (y : A) → test y ≡ true → any test (xs ++ (y ∷ [])) ≡ true
  any_last xs y e = rw (any_snoc xs y) (or_right (any test xs) (test y) e)

  pub those-append : (xs ys : List A) → those test (xs ++ ys) ≡ those test xs ++ those test ys
  those-append [] ys = refl
  those-append (x ∷ xs) ys =
      rw (those-append xs ys)
      (by-test (λ b. cond b (x ∷ (those test xs ++ those test ys)) (those test xs ++ those test ys) ≡ cond b (x ∷ those test xs) (those test xs) ++ those test ys)
      (test x) (λ e. refl) (λ e. refl))

  -- one more among them, and one that the test does not hold of, or holds of
  pub any-more : (xs : List A) (y : A) (ys : List A) → any test (xs ++ ys) ≡ true → any test (xs ++ (y ∷ ys)) ≡ true
  any-more [] y ys e = or_right (test y) (any test ys) e
  any-more (x ∷ xs) y ys e = or-follows (test x) (any test (xs ++ ys)) (test x) (any test (xs ++ (y ∷ ys))) (λ h. h) (any-more xs y ys) e

  pub any-without : (xs : List A) (y : A) (ys : List A) → test y ≡ false → any test (xs ++ (y ∷ ys)) ≡ any test (xs ++ ys)
  any-without xs y ys e = rw (any_append xs (y ∷ ys), any_append xs ys, e) refl

  pub those-without : (xs : List A) (y : A) (ys : List A) → test y ≡ false → those test (xs ++ (y ∷ ys)) ≡ those test (xs ++ ys)
  those-without xs y ys e = rw (those-append xs (y ∷ ys), those-append xs ys, e) refl

  pub those-with : (xs : List A) (y : A) (ys : List A) → test y ≡ true → those test (xs ++ (y ∷ ys)) ≡ those test xs ++ (y ∷ those test ys)
  those-with xs y ys e = rw (those-append xs (y ∷ ys), e) refl

  -- there is one where at least one is counted
  pub any-those : (xs : List A) → any test xs ≡ leb 1 (length (those test xs))
  any-those [] = refl
  any-those (x ∷ xs) =
      by-test (λ b. b || any test xs ≡ leb 1 (length (cond b (x ∷ those test xs) (those test xs)))) (test x)
      (λ e. sym (le-leb 1 (suc (length (those test xs))) (omega arith))) (λ e. any-those xs)

pub length-those : {A : Type 0} (test : A → Bool) (xs : List A) → length (those test xs) ≤ length xs
length-those test [] = omega arith
length-those test (x ∷ xs) =
    let h = length-those test xs in
    by-test (λ b. length (cond b (x ∷ those test xs) (those test xs)) ≤ suc (length xs)) (test x) (λ e. omega arith) (λ e. omega arith)

pub map-append : {A B : Type 0} (f : A → B) (xs ys : List A) → map f (xs ++ ys) ≡ map f xs ++ map f ys
map-append f [] ys = refl
map-append {B} f (x ∷ xs) ys = ap (λ (l : List B). f x ∷ l) (map-append f xs ys)

pub take-map : {A B : Type 0} (f : A → B) (m : ℕ) (xs : List A) → take m (map f xs) ≡ map f (take m xs)
take-map f zero xs = refl
take-map f (suc m) [] = refl
take-map f (suc m) (x ∷ xs) = rw (take-map f m xs) refl

-- the part of n + 1 from i on: the first of it, d where the list has ended, and the rest
pub any_part : {A : Type 0} (test : A → Bool) (d : A) → test d ≡ false → (n i : ℕ) (xs : List A)
    → any test (take (suc n) (drop i xs)) ≡ test (get_or xs i d) || any test (take n (drop (suc i) xs))
any_part test d e n zero [] = rw (e, take-nil n) refl
any_part test d e n (suc i) [] = rw (e, take-nil n) refl
any_part test d e n zero (x ∷ xs) = refl
any_part test d e n (suc i) (x ∷ xs) = any_part test d e n i xs

-- a test that holds of none of the list, and not of d
pub any_none : {A : Type 0} (test : A → Bool) (d : A) → test d ≡ false → (xs : List A) → any test xs ≡ false → (i : ℕ) → test (get_or xs i d) ≡ false
any_none test d e [] f i = e
any_none test d e (x ∷ xs) f zero = (or-false (test x) (any test xs) f).0
any_none test d e (x ∷ xs) f (suc i) = any_none test d e xs (or-false (test x) (any test xs) f).1 i

-- a test that is the same of each, or follows of each
pub any_same : {A : Type 0} (f h : A → Bool) → ((x : A) → h x ≡ f x) → (xs : List A) → any h xs ≡ any f xs
any_same f h i [] = refl
any_same f h i (x ∷ xs) = rw (i x, any_same f h i xs) refl

pub any-or : {A : Type 0} (f h : A → Bool) (xs : List A) → any (λ x. f x || h x) xs ≡ any f xs || any h xs
any-or f h [] = refl
any-or f h (x ∷ xs) = rw (any-or f h xs) (or-between (f x) (h x) (any f xs) (any h xs))

pub any-implies : {A : Type 0} (f h : A → Bool) → ((x : A) → f x ≡ true → h x ≡ true) → (xs : List A) → any f xs ≡ true → any h xs ≡ true
any-implies f h i [] e = e
any-implies f h i (x ∷ xs) e = or-follows (f x) (any f xs) (h x) (any h xs) (i x) (any-implies f h i xs) e

-- a test f that is changed at n alone, where it did not hold, to a test h: over a list that n is in
pub any-update : (f h : ℕ → Bool) (n : ℕ) → f n ≡ false → ((p : ℕ) → (p ≡ n → ⊥) → h p ≡ f p) → (xs : List ℕ) → any (λ x. eqb x n) xs ≡ true
    → any h xs ≡ any f xs || h n
any-update f h n e o xs m =
    by-test (λ t. any h xs ≡ any f xs || t) (h n)
    (λ q. any-implies (λ x. eqb x n) h (λ x p. rw (eqb-true x n p) q) xs m ∙ sym (or-true (any f xs)))
    (λ q. any_same f h (λ x. by-test (λ t. h x ≡ f x) (eqb x n) (λ p. rw (eqb-true x n p) (q ∙ sym e)) (λ p. o x (eqb-false x n p))) xs
    ∙ sym (or_same (any f xs)))

-- a test that holds of no number below n, and back
module _ (test : ℕ → Bool) where
  pub some-none : (n : ℕ) → some test n ≡ false → (k : ℕ) → k < n → test k ≡ false
  some-none zero e k h = absurd (omega arith)
  some-none (suc n) e k h =
      let t = or-false (some test n) (test n) e in
      ⊎_elim (λ l. some-none n t.0 k l) (λ l. let z : k ≡ n = omega arith in rw z t.1) (lt-or-ge k n)

  pub none-some : (n : ℕ) → ((k : ℕ) → k < n → test k ≡ false) → some test n ≡ false
  none-some zero h = refl
  none-some (suc n) h = rw (none-some n (λ k l. h k (omega arith)), h n (omega arith)) refl

-- two tests that are the same of each number below n
pub some_same : (f h : ℕ → Bool) (n : ℕ) → ((k : ℕ) → k < n → f k ≡ h k) → some f n ≡ some h n
some_same f h zero e = refl
some_same f h (suc n) e = rw (some_same f h n (λ k l. e k (omega arith)), e n (omega arith)) refl
