-- A chain of tests, as a definition has it, against the branches of the code: each branch was passed or taken.
use mathlib.Core.Path.{◌≡◌, refl, sym, ap, ◌∙◌}
use mathlib.Core.Bool.{Bool, true, false, not, cond}
use Prim.Native.Nat.{ℕ}
use lib.Dec.{eqb}
use borrow.Author.Tests.{eq-eqb, ne_eqb, lt-ltb, le-ltb, le-leb, lt-leb}

pub skip : {A : Type 0} {b bad : Bool} (n after x : A) → b ≡ bad → b ≡ false → x ≡ after → x ≡ cond bad n after
skip {A} {b} {bad} n after x e f g = g ∙ sym (ap (λ (t : Bool). cond t n after) (sym e ∙ f))

pub stop : {A : Type 0} {b bad : Bool} (n after x : A) → b ≡ bad → b ≡ true → x ≡ n → x ≡ cond bad n after
stop {A} {b} {bad} n after x e f g = g ∙ sym (ap (λ (t : Bool). cond t n after) (sym e ∙ f))

pub skip-eq : {A : Type 0} {a b k : ℕ} (n after x : A) → a ≡ b → (a ≡ k → ⊥) → x ≡ after → x ≡ cond (eqb b k) n after
skip-eq {A} {a} {b} {k} n after x e f g = g ∙ sym (ap (λ (t : Bool). cond t n after) (ne_eqb b k (λ q. f (e ∙ q))))

pub stop-eq : {A : Type 0} {a b k : ℕ} (n after x : A) → a ≡ b → a ≡ k → x ≡ n → x ≡ cond (eqb b k) n after
stop-eq {A} {a} {b} {k} n after x e f g = g ∙ sym (ap (λ (t : Bool). cond t n after) (eq-eqb b k (sym e ∙ f)))

pub skip_is : {A : Type 0} {a k : ℕ} (n after x : A) → (a ≡ k → ⊥) → x ≡ after → x ≡ cond (eqb a k) n after
skip_is {A} {a} {k} n after x f g = skip-eq n after x (λ i. a) f g

pub stop_is : {A : Type 0} {a k : ℕ} (n after x : A) → a ≡ k → x ≡ n → x ≡ cond (eqb a k) n after
stop_is {A} {a} {k} n after x f g = stop-eq n after x (λ i. a) f g

pub ruleset chain = (skip, stop, skip-eq, stop-eq, skip_is, stop_is)

-- where the test is the same in both
pub passed : {A : Type 0} {t : Bool} (n after x : A) → t ≡ false → x ≡ after → x ≡ cond t n after
passed n after x e g = rw e g

pub met : {A : Type 0} {t : Bool} (n after x : A) → t ≡ true → x ≡ n → x ≡ cond t n after
met n after x e g = rw e g

pub some_is : {a b : ℕ} (k : ℕ) → a ≡ b → (a ≡ k → ⊥) → not (eqb b k) ≡ true
some_is {a} {b} k e f = rw (ne_eqb b k (λ q. f (e ∙ q))) refl

pub none_is : {a b : ℕ} (k : ℕ) → a ≡ b → a ≡ k → not (eqb b k) ≡ false
none_is {a} {b} k e f = rw (eq-eqb b k (sym e ∙ f)) refl

pub ruleset chains = (passed, met, lt-ltb, le-ltb, le-leb, lt-leb, some_is, none_is, chain)
