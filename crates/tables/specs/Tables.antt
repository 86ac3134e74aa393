-- What the program's tables hold: the numbers of the definitions' rows.
use Rattle.std.specs.Prelude.{◌≡◌, Bool, true, false, Option, Some, None, List, [], ◌∷◌, map, ℕ, zero, suc, ◌-◌, ◌≤◌, leb, get_or, ℤ, pos, nat_abs}
use Rattle.rules.specs.Plans.{Plan, known_deviation_lem, unknown_deviation_lem, attributes, in_service_lem, corrected, last_row_lem, Numbers, known_a, known_b, unknown_numbers, in_service_numbers, corrected_numbers}
use Rattle.rules.specs.Plans.{attributes_passes, attributes_fails}

-- the rows from k on, as many as are asked for
abbrev pub rows_from : (k count : ℕ) → List ℕ
rows_from k zero = []
rows_from k (suc count) = k ∷ rows_from (suc k) count

-- ---- plans 1, 2, 4 and 5

-- A and B of row n; plan 3 has none
abbrev pub numbers_of_lem : Plan → (n : ℕ) → Numbers
numbers_of_lem known_deviation_lem n = record { A = known_a n; B = known_b n }
numbers_of_lem unknown_deviation_lem n = unknown_numbers n
numbers_of_lem attributes n = record { A = pos 0; B = pos 0 }
numbers_of_lem in_service_lem n = in_service_numbers n
numbers_of_lem corrected n = corrected_numbers n

abbrev pub row_of : Plan → (n : ℕ) → List ℤ
row_of plan n = (numbers_of_lem plan n).A ∷ (numbers_of_lem plan n).B ∷ []

-- the rows from 3 to the plan's last
abbrev pub table_of : Plan → List (List ℤ)
table_of plan = map (row_of plan) (rows_from 3 (last_row_lem plan - 2))

-- the same, of the plans that have such a table: plan 3 has none
abbrev pub table_named : Plan → Option (List (List ℤ))
table_named known_deviation_lem = Some (table_of known_deviation_lem)
table_named unknown_deviation_lem = Some (table_of unknown_deviation_lem)
table_named attributes = None
table_named in_service_lem = Some (table_of in_service_lem)
table_named corrected = Some (table_of corrected)

-- a table is the plan's
pub record Lent (plan : Plan) (t : List (List ℤ)) : Type 0 where
  pub holds : t ≡ table_of plan

-- the number in line i and column j of a table: A in column 0, B in column 1
abbrev pub entry_at : List (List ℤ) → (i j : ℕ) → ℤ
entry_at t i j = get_or (get_or t i []) j (pos 0)

-- the largest number of plan 1's table without its sign, B at 31
abbrev pub known_most : ℕ
known_most = 6571

-- ---- plans 2, 4 and 5: "P ≤ A√W", "P ≥ B√W"

abbrev pub compares_roots : Plan → Bool
compares_roots known_deviation_lem = false
compares_roots unknown_deviation_lem = true
compares_roots attributes = false
compares_roots in_service_lem = true
compares_roots corrected = true

-- the largest number of their tables without its sign, B at 3
abbrev pub root_most : ℕ
root_most = 1664743

-- A has either sign; B is above 0, and in the last row it may be 0, where nothing is asked of it
pub record RootNumbers (last : Bool) (A B : ℤ) : Type 0 where
  pub A-most : nat_abs A ≤ root_most
  pub B-is : pos (nat_abs B) ≡ B
  pub B-least : last ≡ false → 1 ≤ nat_abs B
  pub B-most : nat_abs B ≤ root_most

-- ---- plan 3: the pass numbers of the rows from 4 on and the fail numbers of the rows from 3 on, by the tests that they make

pub record PassNumbers (xs : List ℕ) : Type 0 where
  pub passes : (n : ℕ) → 4 ≤ n → n ≤ last_row_lem attributes → (c : ℕ) → attributes_passes n c ≡ leb c (get_or xs (n - 4) 0)

pub record FailNumbers (xs : List ℕ) : Type 0 where
  pub fails : (n : ℕ) → 3 ≤ n → n ≤ last_row_lem attributes → (c : ℕ) → attributes_fails n c ≡ leb (get_or xs (n - 3) 0) c
