-- Numbers of two words, for all widths of the words: the upper word of a product, and the order.
use Rattle.arithmetic.proofs.Basics.{◌≡◌, ap, cond, ⊎_elim, ℕ, ◌+◌, ◌*◌, ◌^◌, ◌<◌, arith, mul-le-mul_left, mul-le-mul_right, le_of_lt, lt_of_mul-lt-mul_right}
use Rattle.arithmetic.proofs.Basics.{ltb, eqb, eqb-true, eqb-false, by-test, lt-or-ge, ltb-same}

-- the upper digit of a product of two digits is a digit
pub upper_lt : (B h l a b : ℕ) → a < B → b < B → h * B + l ≡ a * b → h < B
upper_lt B h l a b ha hb e =
    lt_of_mul-lt-mul_right B (omega (arith, mul-le-mul_left a (le_of_lt hb), mul-le-mul_right B ha))

-- the order of two numbers of two words of k bits: by the upper words, and where those are equal by the lower
upper-decides : (k h l h' l' : ℕ) → l < 2 ^ k → h < h' → h * 2 ^ k + l < h' * 2 ^ k + l'
upper-decides k h l h' l' fits lt = omega (arith, mul-le-mul_right (2 ^ k) lt)

-- as tests, one for each way that the comparison goes
pub less-upper : (k h l h' l' : ℕ) → l < 2 ^ k → l' < 2 ^ k → (h ≡ h' → ⊥) → ltb h h' ≡ ltb (h * 2 ^ k + l) (h' * 2 ^ k + l')
less-upper k h l h' l' f f' ne =
    ltb-same h h' (h * 2 ^ k + l) (h' * 2 ^ k + l')
    (upper-decides k h l h' l' f, λ lt. ⊎_elim (λ up. up) (λ ge. absurd (omega (arith, upper-decides k h' l' h l f' (omega arith)))) (lt-or-ge h h'))

pub less-lower : (k h l h' l' : ℕ) → h ≡ h' → ltb l l' ≡ ltb (h * 2 ^ k + l) (h' * 2 ^ k + l')
less-lower k h l h' l' e =
    let m : h * 2 ^ k ≡ h' * 2 ^ k = ap (λ (x : ℕ). x * 2 ^ k) e in
    ltb-same l l' (h * 2 ^ k + l) (h' * 2 ^ k + l') (omega arith)

-- "The two-word comparison is shown correct for all widths of its words": the comparison word by word is that of the numbers
pub less-words : (k h l h' l' : ℕ) → l < 2 ^ k → l' < 2 ^ k → cond (eqb h h') (ltb l l') (ltb h h') ≡ ltb (h * 2 ^ k + l) (h' * 2 ^ k + l')
less-words k h l h' l' f f' =
    by-test (λ b. cond b (ltb l l') (ltb h h') ≡ ltb (h * 2 ^ k + l) (h' * 2 ^ k + l')) (eqb h h')
    (λ e. less-lower k h l h' l' (eqb-true h h' e)) (λ e. less-upper k h l h' l' f f' (eqb-false h h' e))
