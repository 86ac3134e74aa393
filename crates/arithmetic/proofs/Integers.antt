-- An integer as the difference of two naturals. A statement on integers is moved by these laws to one on naturals, which `omega` proves:
-- it multiplies products out, so it decides an equation between polynomials.
-- Assumes nothing.
use mathlib.Core.Path.{◌≡◌, ap, sym, ◌∙◌}
use mathlib.Core.Bool.{true, false, cond}
use mathlib.Core.Logic.{◌↔◌}
use Prim.Native.Nat.{ℕ, zero, suc, ◌+◌, ◌-◌, ◌*◌, ◌≤◌, ◌<◌}
use native.Mathlib.Omega.{arith}
use lib.Dec.{ltb, leb}
use lib.IntN.{ℤ, pos, negsuc, neg_ℤ, nat_abs, sub_ℕ, ◌+ℤ◌, ◌-ℤ◌, ◌*ℤ◌}
use lib.Signed.{lt_z, le_z}
use borrow.Author.Tests.{lt-ltb, le-ltb, le-leb, lt-leb, ltb-true, ltb-false, leb-true}
use Rattle.arithmetic.proofs.Booleans.{by-test, never}
use Rattle.arithmetic.proofs.Order.{ltb-same, leb-same}

abbrev pub IsDiff : ℤ → ℕ → ℕ → Type 0
IsDiff (pos n) p q = p ≡ q + n
IsDiff (negsuc n) p q = q ≡ p + suc n

-- z = p − q. A record, so that z, p and q are inferred from a proof of it.
pub record Diff (z : ℤ) (p q : ℕ) : Type 0 where
  pub is : IsDiff z p q

-- ---- the laws

pub diff-pos : (n : ℕ) → Diff (pos n) n 0
diff-pos n = record { is = omega arith }

-- the same number as another difference: `diff-move h (omega arith)`
pub diff-move : {z : ℤ} {p q r s : ℕ} → Diff z p q → p + s ≡ r + q → Diff z r s
diff-move {z = pos n} h e = record { is = omega arith }
diff-move {z = negsuc n} h e = record { is = omega arith }

pub diff-negpos : (n : ℕ) → Diff (neg_ℤ (pos n)) 0 n
diff-negpos zero = record { is = omega arith }
diff-negpos (suc n) = record { is = omega arith }

pub diff-neg : {z : ℤ} {p q : ℕ} → Diff z p q → Diff (neg_ℤ z) q p
diff-neg {z = pos n} h = diff-move (diff-negpos n) (omega arith)
diff-neg {z = negsuc n} h = record { is = h.is }

diff-sub : (a b : ℕ) → Diff (sub_ℕ a b) a b
diff-sub a b =
    by-test (λ t. Diff (cond t (negsuc (b - suc a)) (pos (a - b))) a b) (ltb a b)
    (λ e. record { is = omega (arith, ltb-true a b e) }) (λ e. record { is = omega (arith, ltb-false a b e) })

pub diff-add : {y z : ℤ} {p q r s : ℕ} → Diff y p q → Diff z r s → Diff (y +ℤ z) (p + r) (q + s)
diff-add {y = pos a} {z = pos b} h k = record { is = omega arith }
diff-add {y = pos a} {z = negsuc b} h k = diff-move (diff-sub a (suc b)) (omega arith)
diff-add {y = negsuc a} {z = pos b} h k = diff-move (diff-sub b (suc a)) (omega arith)
diff-add {y = negsuc a} {z = negsuc b} h k = record { is = omega arith }

pub diff-minus : {y z : ℤ} {p q r s : ℕ} → Diff y p q → Diff z r s → Diff (y -ℤ z) (p + s) (q + r)
diff-minus h k = diff-add h (diff-neg k)

pub diff-mul : {y z : ℤ} {p q r s : ℕ} → Diff y p q → Diff z r s → Diff (y *ℤ z) (p * r + q * s) (p * s + q * r)
diff-mul {y = pos a} {z = pos b} h k = record { is = rw (h.is, k.is) (omega arith) }
diff-mul {y = pos a} {z = negsuc b} h k = diff-move (diff-negpos (a * suc b)) (rw (h.is, k.is) (omega arith))
diff-mul {y = negsuc a} {z = pos b} h k = diff-move (diff-negpos (suc a * b)) (rw (h.is, k.is) (omega arith))
diff-mul {y = negsuc a} {z = negsuc b} h k = record { is = rw (h.is, k.is) (omega arith) }

-- an equation between integers: `diff-eq h k (omega arith)`
pub diff-eq : {y z : ℤ} {p q r s : ℕ} → Diff y p q → Diff z r s → p + s ≡ r + q → y ≡ z
diff-eq {y = pos a} {z = pos b} h k e = ap pos (omega arith)
diff-eq {y = pos a} {z = negsuc b} h k e = absurd (omega arith)
diff-eq {y = negsuc a} {z = pos b} h k e = absurd (omega arith)
diff-eq {y = negsuc a} {z = negsuc b} h k e = ap negsuc (omega arith)

-- the tests of order
diff-lt : {y z : ℤ} {p q r s : ℕ} → Diff y p q → Diff z r s → lt_z y z ≡ ltb (p + s) (r + q)
diff-lt {y = pos a} {z = pos b} {p} {q} {r} {s} h k = ltb-same a b (p + s) (r + q) (omega arith)
diff-lt {y = pos a} {z = negsuc b} {p} {q} {r} {s} h k = sym (le-ltb (p + s) (r + q) (omega arith))
diff-lt {y = negsuc a} {z = pos b} {p} {q} {r} {s} h k = sym (lt-ltb (p + s) (r + q) (omega arith))
diff-lt {y = negsuc a} {z = negsuc b} {p} {q} {r} {s} h k = ltb-same b a (p + s) (r + q) (omega arith)

diff-le : {y z : ℤ} {p q r s : ℕ} → Diff y p q → Diff z r s → le_z y z ≡ leb (p + s) (r + q)
diff-le {y = pos a} {z = pos b} {p} {q} {r} {s} h k = leb-same a b (p + s) (r + q) (omega arith)
diff-le {y = pos a} {z = negsuc b} {p} {q} {r} {s} h k = sym (lt-leb (p + s) (r + q) (omega arith))
diff-le {y = negsuc a} {z = pos b} {p} {q} {r} {s} h k = sym (le-leb (p + s) (r + q) (omega arith))
diff-le {y = negsuc a} {z = negsuc b} {p} {q} {r} {s} h k = leb-same b a (p + s) (r + q) (omega arith)

-- a test of order as a fact of naturals, and back
pub lt-fact : {y z : ℤ} {p q r s : ℕ} → Diff y p q → Diff z r s → lt_z y z ≡ true → p + s < r + q
lt-fact h k e = ltb-true _ _ (sym (diff-lt h k) ∙ e)

pub lt_test : {y z : ℤ} {p q r s : ℕ} → Diff y p q → Diff z r s → p + s < r + q → lt_z y z ≡ true
lt_test h k l = diff-lt h k ∙ lt-ltb _ _ l

pub le-fact : {y z : ℤ} {p q r s : ℕ} → Diff y p q → Diff z r s → le_z y z ≡ true → p + s ≤ r + q
le-fact h k e = leb-true _ _ (sym (diff-le h k) ∙ e)

pub le_test : {y z : ℤ} {p q r s : ℕ} → Diff y p q → Diff z r s → p + s ≤ r + q → le_z y z ≡ true
le_test h k l = diff-le h k ∙ le-leb _ _ l

pub lt_not : {y z : ℤ} {p q r s : ℕ} → Diff y p q → Diff z r s → r + q ≤ p + s → lt_z y z ≡ false
lt_not h k l = diff-lt h k ∙ le-ltb _ _ l

pub le_not : {y z : ℤ} {p q r s : ℕ} → Diff y p q → Diff z r s → r + q < p + s → le_z y z ≡ false
le_not h k l = diff-le h k ∙ lt-leb _ _ l

-- a program's test on naturals, as the test on integers that it stands for: `diff-leb h k _ _ (omega arith)`
pub diff-leb : {y z : ℤ} {p q r s : ℕ} → Diff y p q → Diff z r s → (a b : ℕ) → (a ≤ b) ↔ (p + s ≤ r + q) → leb a b ≡ le_z y z
diff-leb {y} {z} {p} {q} {r} {s} h k a b e = leb-same a b (p + s) (r + q) e ∙ sym (diff-le h k)

-- each integer is a difference
pub plus : ℤ → ℕ
plus (pos n) = n
plus (negsuc n) = 0

pub minus : ℤ → ℕ
minus (pos n) = 0
minus (negsuc n) = suc n

pub diff-of : (z : ℤ) → Diff z (plus z) (minus z)
unfolding plus minus
diff-of (pos n) = diff-pos n
diff-of (negsuc n) = record { is = omega arith }

-- by its sign
pub diff-below : (z : ℤ) → lt_z z (pos 0) ≡ true → Diff z 0 (nat_abs z)
diff-below (pos n) e = absurd (omega (arith, lt-fact (diff-pos n) (diff-pos 0) e))
diff-below (negsuc n) e = record { is = omega arith }

pub diff-above : (z : ℤ) → lt_z z (pos 0) ≡ false → Diff z (nat_abs z) 0
diff-above (pos n) e = diff-pos n
diff-above (negsuc n) e = never e
