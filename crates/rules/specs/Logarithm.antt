-- Document 01, "The logarithm", and document 02, F-2 and F-9.
use Rattle.std.specs.Prelude.{ℕ, zero, suc, ◌+◌, ◌-◌, ◌*◌, ◌/◌, ◌^◌, Bool, not, cond, List, map, leb, length, ℤ, pos, ◌+ℤ◌, ◌-ℤ◌, ◌*ℤ◌}
use Rattle.rules.specs.Tools.{within, total, square}

-- 02, F-9: "Take twenty steps in place of sixteen": every definition below is over the number q of squarings, and this is where twenty is put in
abbrev pub squarings : ℕ
squarings = 20

-- "m from 1 to 9,999,999", the range of limits and measurements too, and of declared values and their tests (document 02, F-4)
abbrev pub greatest : ℕ
greatest = 9999999

-- out of that range
abbrev pub outside : ℕ → Bool
outside x = not (within 1 greatest x)

-- the number of binary digits of m, of which there are at most k
unfoldable pub binary_digits : (k m : ℕ) → ℕ
binary_digits zero m = 0
binary_digits (suc k) m = cond (leb 1 m) (1 + binary_digits k (m / 2)) 0

-- "e is the number of binary digits of m less one": m is below 2^32
abbrev pub exponent : ℕ → ℕ
exponent m = binary_digits 32 m - 1

-- "Q = M × M; if Q ≥ 2^63 the next bit is 1 and M becomes Q / 2^32, else the bit is 0 and M becomes Q / 2^31, rounded down"
abbrev pub bit : ℕ → ℕ
bit M = cond (leb (2 ^ 63) (M * M)) 1 0

abbrev pub next : ℕ → ℕ
next M = cond (leb (2 ^ 63) (M * M)) (M * M / 2 ^ 32) (M * M / 2 ^ 31)

-- the bits of q squarings from M, "first bit highest", after the bits found before
unfoldable pub bits : (q found M : ℕ) → ℕ
bits zero found M = found
bits (suc q) found M = bits q (found * 2 + bit M) (next M)

-- "M = m × 2^(31−e)", "e × .. + the .. bits"; 02, F-9: "units become 1/1,048,576"
unfoldable pub logarithm : (q m : ℕ) → ℕ
logarithm q m = exponent m * 2 ^ q + bits q 0 (m * 2 ^ (31 - exponent m))

-- "For m from 1 to 9,999,999", "Any other m gets 0"
unfoldable pub g : (q m : ℕ) → ℕ
g q m = cond (within 1 greatest m) (logarithm q m) 0

-- 02, F-2: "Makers run in the first engine and correct the others": a pollutant's value after running-in, and x_1, the first engine's
-- measurement
pub record Correction : Type 0 where
  pub value : ℕ
  pub first : ℕ

-- without running-in two equal numbers, 1 and 1: g(1) is 0, and a product with 1 is the number itself
abbrev pub uncorrected : Correction
uncorrected = record { value = 1; first = 1 }

-- 02, F-2: "Each d_j becomes g(x_j) + g(value) − g(x_1) − g(L)"; without running-in "engine j has d_j = g(x_j) − g(L)"
abbrev pub d : (q L : ℕ) → Correction → (x : ℕ) → ℤ
d q L c x = pos (g q x) +ℤ pos (g q c.value) -ℤ pos (g q c.first) -ℤ pos (g q L)

-- "D is the sum of the d_j over n engines"
abbrev pub D : (q L : ℕ) → Correction → List ℕ → ℤ
D q L c xs = total (map (d q L c) xs)

-- "W = n × (sum of d_j squared) − D squared"
abbrev pub W : (q L : ℕ) → Correction → List ℕ → ℤ
W q L c xs = pos (length xs) *ℤ total (map (λ x. square (d q L c x)) xs) -ℤ square (D q L c xs)
