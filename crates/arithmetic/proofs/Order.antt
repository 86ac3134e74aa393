-- Tests of order, of which two that test the same give the same; a test of a range; and the order of squares.
use Prim.Native.Nat.{ℕ, suc, ◌+◌, ◌-◌, ◌*◌, ◌≤◌, ◌<◌}
use mathlib.Core.Path.{◌≡◌, sym, ap, ◌∙◌}
use mathlib.Core.Bool.{false, not}
use mathlib.Core.Logic.{◌⊎◌, inl, inr, ⊎_elim, ◌↔◌}
use native.Mathlib.Omega.{arith}
use native.Mathlib.Decide.{dec_lt}
use lib.Dec.{ltb, leb}
use borrow.Author.Tests.{lt-ltb, le-ltb, lt-leb, le-leb, leb-true, not-false}
use Rattle.rules.specs.Tools.{within}
use Rattle.arithmetic.proofs.Booleans.{and-true}

-- one of two numbers is the lower, or the other is at most that
pub lt-or-ge : (a b : ℕ) → (a < b) ⊎ (b ≤ a)
lt-or-ge a b = cases (dec_lt a b)
  where
    cases : Dec (a < b) → (a < b) ⊎ (b ≤ a)
    cases (yes h) = inl h
    cases (no h) = inr (omega arith)

pub leb-same : (a b c d : ℕ) → (a ≤ b) ↔ (c ≤ d) → leb a b ≡ leb c d
leb-same a b c d e =
    ⊎_elim (λ lt. lt-leb a b lt ∙ sym (lt-leb c d (⊎_elim (λ h. h) (λ le. absurd (omega (arith, e.1 le))) (lt-or-ge d c))))
    (λ le. le-leb a b le ∙ sym (le-leb c d (e.0 le)))
    (lt-or-ge b a)

pub ltb-same : (a b c d : ℕ) → (a < b) ↔ (c < d) → ltb a b ≡ ltb c d
ltb-same a b c d e = leb-same (suc a) b (suc c) d e

pub not-ltb : (a b : ℕ) → not (ltb a b) ≡ leb b a
not-ltb a b =
    ⊎_elim (λ lt. ap not (lt-ltb a b lt) ∙ sym (lt-leb b a lt)) (λ ge. ap not (le-ltb a b ge) ∙ sym (le-leb b a ge)) (lt-or-ge a b)

-- a number that is not outside a range
pub in-range : (lo hi x : ℕ) → not (within lo hi x) ≡ false → (lo ≤ x) × (x ≤ hi)
in-range lo hi x e =
    let t = and-true (leb lo x) (leb x hi) (not-false (within lo hi x) e) in
    (leb-true lo x t.0, leb-true x hi t.1)

-- twice a product is at most the sum of the squares
pub twice : (a b : ℕ) → 2 * (a * b) ≤ a * a + b * b
twice a b = ⊎_elim (λ lt. ordered a b (omega arith)) (λ ge. omega (arith, ordered b a ge)) (lt-or-ge a b)
  where
    apart : (a k : ℕ) → 2 * (a * (a + k)) ≤ a * a + (a + k) * (a + k)
    apart a k = omega arith

    ordered : (a b : ℕ) → a ≤ b → 2 * (a * b) ≤ a * a + b * b
    ordered a b h = let e : b ≡ a + (b - a) = omega arith in rw e (apart a (b - a))
