-- What every section of document 01 uses: tests over lists, sums, a range, little-endian numbers.
use Rattle.std.specs.Prelude.{ℕ, zero, suc, ◌+◌, ◌*◌, Bool, true, false, ◌&&◌, ◌||◌, cond, List, [], ◌∷◌, leb, get_or, ℤ, pos, ◌+ℤ◌, ◌*ℤ◌}

module _ {A : Type 0} where
  abbrev pub any : (A → Bool) → List A → Bool
  any test [] = false
  any test (x ∷ xs) = test x || any test xs

  abbrev pub all : (A → Bool) → List A → Bool
  all test [] = true
  all test (x ∷ xs) = test x && all test xs

  -- those of the list that the test holds of, in their order
  abbrev pub those : (A → Bool) → List A → List A
  those test [] = []
  those test (x ∷ xs) = cond (test x) (x ∷ those test xs) (those test xs)

-- the test holds of some number below n
abbrev pub some : (test : ℕ → Bool) → (n : ℕ) → Bool
some test zero = false
some test (suc n) = some test n || test n

-- lo to hi, both counted in
abbrev pub within : (lo hi x : ℕ) → Bool
within lo hi x = leb lo x && leb x hi

unfoldable pub sum : List ℕ → ℕ
sum [] = 0
sum (x ∷ xs) = x + sum xs

unfoldable pub total : List ℤ → ℤ
total [] = pos 0
total (z ∷ zs) = z +ℤ total zs

abbrev pub square : ℤ → ℤ
square z = z *ℤ z

-- "Numbers are little-endian": the byte at k, 0 past the end, and the numbers of two and of four bytes there
abbrev pub byte : List ℕ → ℕ → ℕ
byte r k = get_or r k 0

abbrev pub two : List ℕ → ℕ → ℕ
two r k = byte r k + 256 * byte r (k + 1)

abbrev pub four : List ℕ → ℕ → ℕ
four r k = byte r k + 256 * byte r (k + 1) + 65536 * byte r (k + 2) + 16777216 * byte r (k + 3)
