-- Two lists whose elements stand in a relation, one by one.
use Prim.Native.Nat.{ℕ, zero, suc, ◌<◌}
use native.Mathlib.Omega.{arith}
use mathlib.Core.Path.{◌≡◌, refl, ap}
use mathlib.Core.Bool.{Bool, true, cond}
use mathlib.Core.List.{List, [], ◌∷◌, ◌++◌, map}
use lib.ListN.{length, get_or, take}
use Rattle.rules.specs.Tools.{any, all, those}
use Rattle.arithmetic.proofs.Booleans.{or-follows, and-follows, by-test}

pub data Pairs {A B : Type 0} (P : A → B → Type 0) : List A → List B → Type 0 where
  none : Pairs P [] []
  more : {x : A} {y : B} {xs : List A} {ys : List B} → P x y → Pairs P xs ys → Pairs P (x ∷ xs) (y ∷ ys)

-- a list and itself
pub pairs-same : {A : Type 0} {P : A → A → Type 0} → ((x : A) → P x x) → (xs : List A) → Pairs P xs xs
pairs-same i [] = none
pairs-same i (x ∷ xs) = more (i x) (pairs-same i xs)

module _ {A B : Type 0} {P : A → B → Type 0} where
  pub pairs-length : {xs : List A} {ys : List B} → Pairs P xs ys → length xs ≡ length ys
  pairs-length none = refl
  pairs-length (more h r) = ap suc (pairs-length r)

  -- by their places
  pub pairs-at : (xs : List A) (ys : List B) (x : A) (y : B) → length xs ≡ length ys
      → ((j : ℕ) → j < length xs → P (get_or xs j x) (get_or ys j y)) → Pairs P xs ys
  pairs-at [] [] x y l h = none
  pairs-at [] (b ∷ ys) x y l h = absurd (omega arith)
  pairs-at (a ∷ xs) [] x y l h = absurd (omega arith)
  pairs-at (a ∷ xs) (b ∷ ys) x y l h = more (h 0 (omega arith)) (pairs-at xs ys x y (omega arith) (λ j k. h (suc j) (omega arith)))

  pub pairs-take : (n : ℕ) {xs : List A} {ys : List B} → Pairs P xs ys → Pairs P (take n xs) (take n ys)
  pairs-take zero r = none
  pairs-take (suc n) none = none
  pairs-take (suc n) (more h r) = more h (pairs-take n r)

  pub pairs-append : {xs zs : List A} {ys vs : List B} → Pairs P xs ys → Pairs P zs vs → Pairs P (xs ++ zs) (ys ++ vs)
  pairs-append none q = q
  pairs-append (more h r) q = more h (pairs-append r q)

  -- in a relation that follows
  pub pairs-follow : {Q : A → B → Type 0} {xs : List A} {ys : List B} → ((x : A) (y : B) → P x y → Q x y) → Pairs P xs ys → Pairs Q xs ys
  pairs-follow i none = none
  pairs-follow i (more {x} {y} h r) = more (i x y h) (pairs-follow i r)

  pub pairs-map : {C D : Type 0} {Q : C → D → Type 0} {xs : List A} {ys : List B} (f : A → C) (g : B → D)
      → ((x : A) (y : B) → P x y → Q (f x) (g y)) → Pairs P xs ys → Pairs Q (map f xs) (map g ys)
  pairs-map f g i none = none
  pairs-map f g i (more {x} {y} h r) = more (i x y h) (pairs-map f g i r)

  pub same_map : {C : Type 0} {xs : List A} {ys : List B} (f : A → C) (g : B → C)
      → ((x : A) (y : B) → P x y → f x ≡ g y) → Pairs P xs ys → map f xs ≡ map g ys
  same_map f g i none = refl
  same_map f g i (more {x} {y} h r) = rw (i x y h, same_map f g i r) refl

  -- a test that follows from each of the one list to that of the other follows of some of them, and of all
  pub any-follows : {xs : List A} {ys : List B} (s : A → Bool) (t : B → Bool) → ((x : A) (y : B) → P x y → s x ≡ true → t y ≡ true)
      → Pairs P xs ys → any s xs ≡ true → any t ys ≡ true
  any-follows s t i none e = e
  any-follows s t i (more {x} {y} {xs} {ys} h r) e = or-follows (s x) (any s xs) (t y) (any t ys) (i x y h) (any-follows s t i r) e

  pub all-follows : {xs : List A} {ys : List B} (t : B → Bool) (s : A → Bool) → ((x : A) (y : B) → P x y → t y ≡ true → s x ≡ true)
      → Pairs P xs ys → all t ys ≡ true → all s xs ≡ true
  all-follows t s i none e = e
  all-follows t s i (more {x} {y} {xs} {ys} h r) e = and-follows (t y) (all t ys) (s x) (all s xs) (i x y h) (all-follows t s i r) e

  -- a test that gives the same in both: some of them, and those that it holds of
  module _ (s : A → Bool) (t : B → Bool) (i : (x : A) (y : B) → P x y → s x ≡ t y) where
    pub same-any : {xs : List A} {ys : List B} → Pairs P xs ys → any s xs ≡ any t ys
    same-any none = refl
    same-any (more {x} {y} h r) = rw (i x y h, same-any r) refl

    pub pairs-those : {xs : List A} {ys : List B} → Pairs P xs ys → Pairs (λ (x : A) (y : B). (s x ≡ true) × P x y) (those s xs) (those t ys)
    pairs-those none = none
    pairs-those (more {x} {y} {xs} {ys} h r) =
        rw (← (i x y h))
        (by-test (λ b. Pairs (λ (u : A) (v : B). (s u ≡ true) × P u v) (cond b (x ∷ those s xs) (those s xs)) (cond b (y ∷ those t ys) (those t ys)))
        (s x) (λ e. more (e, h) (pairs-those r)) (λ e. pairs-those r))
