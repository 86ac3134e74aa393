-- Tests joined by "and" and "or": what a joined test says of its parts.
use Prim.Native.Nat.{ℕ}
use mathlib.Core.Path.{◌≡◌, refl, sym}
use mathlib.Core.Bool.{Bool, true, false, not, ◌&&◌, ◌||◌, cond}
use native.Mathlib.Omega.{arith}

-- a test cannot both hold and fail
pub never : {X : Type 0} → true ≡ false → X
never e = let z : ◌≡◌ {A = ℕ} 0 1 = cc in absurd (omega arith)

pub or-false : (a b : Bool) → a || b ≡ false → (a ≡ false) × (b ≡ false)
or-false true b e = never e
or-false false b e = (refl, e)

pub and-true : (a b : Bool) → a && b ≡ true → (a ≡ true) × (b ≡ true)
and-true true b e = (refl, e)
and-true false b e = let z : true ≡ false = cc in never z

-- of two tests that do not hold together, one that holds tells the other
pub and_left : (a b : Bool) → a && b ≡ false → b ≡ true → a ≡ false
and_left true b e f = cc
and_left false b e f = refl

pub and_right : (a b : Bool) → a && b ≡ false → a ≡ true → b ≡ false
and_right true b e f = e
and_right false b e f = cc

pub and-never : (a : Bool) → a && false ≡ false
and-never true = refl
and-never false = refl

pub or-true : (a : Bool) → a || true ≡ true
or-true true = refl
or-true false = refl

pub or_same : (a : Bool) → a || false ≡ a
or_same true = refl
or_same false = refl

pub or-between : (a b c d : Bool) → a || b || (c || d) ≡ a || c || (b || d)
or-between true b c d = refl
or-between false true true d = refl
or-between false true false d = refl
or-between false false c d = refl

pub or_swap : (a b : Bool) → a || b ≡ b || a
or_swap true true = refl
or_swap true false = refl
or_swap false true = refl
or_swap false false = refl

pub or_assoc : (a b c : Bool) → a || (b || c) ≡ (a || b) || c
or_assoc true b c = refl
or_assoc false b c = refl

pub not-or : (a b : Bool) → not (a || b) ≡ not a && not b
not-or true b = refl
not-or false b = refl

pub or_right : (a b : Bool) → b ≡ true → a || b ≡ true
or_right true b e = refl
or_right false b e = e

-- where each part follows, so does the joined test
pub or-follows : (a b c d : Bool) → (a ≡ true → c ≡ true) → (b ≡ true → d ≡ true) → a || b ≡ true → c || d ≡ true
or-follows true b c d f g e = rw (f refl) refl
or-follows false b c d f g e = or_right c d (g e)

pub and-follows : (a b c d : Bool) → (a ≡ true → c ≡ true) → (b ≡ true → d ≡ true) → a && b ≡ true → c && d ≡ true
and-follows true b c d f g e = rw (f refl) (g e)
and-follows false b c d f g e = let z : true ≡ false = cc in never z

pub cond-follows : {p q r s : Bool} (t : Bool) → (p ≡ true → r ≡ true) → (q ≡ true → s ≡ true) → cond t p q ≡ true → cond t r s ≡ true
cond-follows true f g e = f e
cond-follows false f g e = g e

-- two tests that fail together
pub same_test : (a b : Bool) → (a ≡ false → b ≡ false) → (b ≡ false → a ≡ false) → a ≡ b
same_test true true f g = refl
same_test true false f g = g refl
same_test false b f g = sym (f refl)

-- a statement about a test, from each of its two values
pub by-test : (P : Bool → Type 0) (t : Bool) → (t ≡ true → P true) → (t ≡ false → P false) → P t
by-test P true f g = f refl
by-test P false f g = g refl
