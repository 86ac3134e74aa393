-- The records of a sheet's bytes: of joined bytes, one by one, and with a byte changed.
use Rattle.arithmetic.proofs.Basics.{ℕ, zero, suc, ◌+◌, ◌*◌, ◌/◌, ◌%◌, ◌≤◌, ◌<◌, zero-add, suc-add, mul-zero, mul-suc, div-add-mod, mul-add-div, add_assoc}
use Rattle.arithmetic.proofs.Basics.{arith, ◌≡◌, refl, ap, ◌∙◌, List, [], ◌∷◌, ◌++◌, length, get_or, take, drop, length-append, length-drop, take-append-le}
use Rattle.arithmetic.proofs.Basics.{drop-append-le, drop-drop, get_or-take, get_or-drop, set, length-set, take-set-le, take-set-lt, drop-set-lt, drop-set-add}
use Rattle.arithmetic.proofs.Basics.{length-take-le, le_trans, mul-le-mul_left, mul-div-le}
use Rattle.rules.specs.Tools.{four}
use Rattle.rules.specs.Sheet.{Record, size, cut, records}

-- ---- the records of joined bytes

cut-append : (s m k : ℕ) (R T : List ℕ) → length R ≡ s * m → cut s (m + k) (R ++ T) ≡ cut s m R ++ cut s k T
unfolding cut
cut-append s zero k [] T h = rw zero-add refl
cut-append s zero k (x ∷ R) T h = let z : ◌≡◌ {A = ℕ} 0 1 = omega (arith, mul-zero s) in cc
cut-append s (suc m) k R T h =
    let l : s ≤ length R = omega (arith, mul-suc s m) in
    rw (suc-add, take-append-le s R T l, drop-append-le s R T l)
    (ap (λ (rs : List Record). take s R ∷ rs) (cut-append s m k (drop s R) T (rw length-drop (omega (arith, mul-suc s m)))))

-- a length of whole records
pub whole-records : (s n : ℕ) → n % s ≡ 0 → n ≡ s * (n / s)
whole-records s n h = let e = div-add-mod n s in omega arith

quotient : (s a b c : ℕ) → 0 < s → a ≡ s * (a / s) → c ≡ a + b → c / s ≡ a / s + b / s
quotient s a b c p e f = ap (λ (x : ℕ). x / s) (f ∙ ap (λ (x : ℕ). x + b) e) ∙ mul-add-div p (a / s) b

pub records-append : (w : ℕ) (R T : List ℕ) → length R % size w ≡ 0 → records w (R ++ T) ≡ records w R ++ records w T
unfolding records
records-append w R T h =
    let i = whole-records (size w) (length R) h in
    let e : length (R ++ T) / size w ≡ length R / size w + length T / size w =
    quotient (size w) (length R) (length T) (length (R ++ T)) (omega arith) i (length-append R T) in
    rw e (cut-append (size w) (length R / size w) (length T / size w) R T i)

-- ---- record j

cut_at : (s n : ℕ) (b : List ℕ) (j : ℕ) → j < n → get_or (cut s n b) j [] ≡ take s (drop (s * j) b)
unfolding cut
cut_at s zero b j h = absurd (omega arith)
cut_at s (suc n) b zero h = let e : s * 0 ≡ 0 = mul-zero s in rw e refl
cut_at s (suc n) b (suc j) h =
    let e : s + s * j ≡ s * suc j = omega (arith, mul-suc s j) in
    cut_at s n (drop s b) j (omega arith) ∙ ap (λ (l : List ℕ). take s l) (drop-drop (s * j) s b ∙ ap (λ (i : ℕ). drop i b) e)

pub record-at : (w : ℕ) (b : List ℕ) (j : ℕ) → j < length b / size w → get_or (records w b) j [] ≡ take (size w) (drop (size w * j) b)
unfolding records
record-at w b j h = cut_at (size w) (length b / size w) b j h

length_cut : (s n : ℕ) (b : List ℕ) → length (cut s n b) ≡ n
unfolding cut
length_cut s zero b = refl
length_cut s (suc n) b = ap suc (length_cut s n (drop s b))

pub length-records : (w : ℕ) (b : List ℕ) → length (records w b) ≡ length b / size w
unfolding records
length-records w b = length_cut (size w) (length b / size w) b

pub length-record : (w : ℕ) (b : List ℕ) (j : ℕ) → j < length b / size w → length (get_or (records w b) j []) ≡ size w
length-record w b j h =
    let l : size w * suc j ≤ length b = le_trans (mul-le-mul_left (size w) h) (mul-div-le (length b) (size w)) in
    rw (record-at w b j h) (length-take-le (size w) (drop (size w * j) b) (rw length-drop (omega arith)))

-- ---- with one byte changed: byte k of record j

cut-set : (s n : ℕ) (b : List ℕ) (j k v : ℕ) → j < n → k < s → cut s n (set b (s * j + k) v) ≡ set (cut s n b) j (set (get_or (cut s n b) j []) k v)
unfolding cut
cut-set s zero b j k v h l = absurd (omega arith)
cut-set s (suc n) b zero k v h l =
    let e : s * 0 + k ≡ k = omega (arith, mul-zero s) in
    rw (e, take-set-lt s b k v l, drop-set-lt s b k v l) refl
cut-set s (suc n) b (suc j) k v h l =
    let e : s * suc j + k ≡ s + (s * j + k) = omega (arith, mul-suc s j) in
    rw (e, take-set-le s b (s + (s * j + k)) v (omega arith), drop-set-add s b (s * j + k) v, cut-set s n (drop s b) j k v (omega arith) l) refl

pub records-set : (w : ℕ) (b : List ℕ) (j k v : ℕ) → j < length b / size w → k < size w
    → records w (set b (size w * j + k) v) ≡ set (records w b) j (set (get_or (records w b) j []) k v)
unfolding records
records-set w b j k v h l = rw (length-set b (size w * j + k) v) (cut-set (size w) (length b / size w) b j k v h l)

-- ---- four bytes of a part

pub four-take : (n k : ℕ) (b : List ℕ) → k + 4 ≤ n → four (take n b) k ≡ four b k
four-take n k b h =
    rw (get_or-take n b k 0 (omega arith), get_or-take n b (k + 1) 0 (omega arith), get_or-take n b (k + 2) 0 (omega arith), get_or-take n b (k + 3) 0 (omega arith)) refl

pub four-drop : (n k : ℕ) (b : List ℕ) → four (drop n b) k ≡ four b (n + k)
four-drop n k b = simp (get_or-drop, add_assoc)
