-- A number in decimal: the digits of all but its last, and its last.
use Rattle.arithmetic.proofs.Basics.{ℕ, zero, suc, ◌+◌, ◌/◌, ◌%◌, ◌^◌, ◌≤◌, ◌<◌, arith, pow-suc, ◌≡◌, refl, sym, ap, ◌∙◌, ⊎_elim, List, [], ◌∷◌, ◌++◌, length}
use Rattle.arithmetic.proofs.Basics.{length-append, lt-ltb, le-ltb, lt-or-ge}
use Rattle.rules.specs.Printed.{last_digits, decimal}

last : (most n : ℕ) → n < 10 → last_digits (suc most) n ≡ (48 + n) ∷ []
unfolding last_digits
last most n h =
    let e : n % 10 ≡ n = omega arith in
    rw (lt-ltb n 10 h, e) refl

more : (most n : ℕ) → 10 ≤ n → last_digits (suc most) n ≡ last_digits most (n / 10) ++ ((48 + n % 10) ∷ [])
unfolding last_digits
more most n h = rw (le-ltb n 10 h) refl

-- where there may be as many digits as n and one more, there are all of them
enough : (a b n : ℕ) → n ≤ a → n ≤ b → last_digits (suc a) n ≡ last_digits (suc b) n
enough zero b n h k = last zero n (omega arith) ∙ sym (last b n (omega arith))
enough (suc a) zero n h k = last (suc a) n (omega arith) ∙ sym (last zero n (omega arith))
enough (suc a) (suc b) n h k =
    ⊎_elim (λ l. last (suc a) n l ∙ sym (last (suc b) n l))
    (λ l. more (suc a) n l
    ∙ (ap (λ (ds : List ℕ). ds ++ ((48 + n % 10) ∷ [])) (enough a b (n / 10) (omega arith) (omega arith)) ∙ sym (more (suc b) n l)))
    (lt-or-ge n 10)

pub one-digit : (n : ℕ) → n < 10 → decimal n ≡ (48 + n) ∷ []
unfolding decimal
one-digit n h = last n n h

pub more-digits : (n : ℕ) → 10 ≤ n → decimal n ≡ decimal (n / 10) ++ ((48 + n % 10) ∷ [])
unfolding decimal
more-digits zero h = absurd (omega arith)
more-digits (suc m) h =
    more (suc m) (suc m) h
    ∙ ap (λ (ds : List ℕ). ds ++ ((48 + suc m % 10) ∷ [])) (enough m (suc m / 10) (suc m / 10) (omega arith) (omega arith))

-- ---- how many digits

pub digit-length : (n : ℕ) → n < 10 → length (decimal n) ≡ 1
digit-length n h = ap length (one-digit n h)

-- a number below the k-th power of ten has at most k digits
pub decimal-length : (k n : ℕ) → n < 10 ^ suc k → length (decimal n) ≤ suc k
decimal-length zero n h = omega (arith, digit-length n (omega arith))
decimal-length (suc k) n h =
    ⊎_elim (λ l. omega (arith, digit-length n l))
    (λ l.
    omega (arith, ap length (more-digits n l), length-append (decimal (n / 10)) ((48 + n % 10) ∷ []), decimal-length k (n / 10) (omega (arith, pow-suc 10 (suc k)))))
    (lt-or-ge n 10)
