-- Document 02, F-4: worked cases on the line of 104/100 and beside it, and each refusal against the others.
-- `table-holds` is the computed check: approving each declared value with its tests gives the answer beside them.
use Rattle.std.specs.Prelude.{ℕ, ◌≡◌, refl, List, [], ◌∷◌, map, replicate}
use Rattle.rules.specs.Tools.{sum}
use Rattle.rules.specs.DeclaredValue.{Approval, another, value, refusal, mean_fits, stands, decided, bad_count, bad_value_lem, after_decision, approve}

-- a declared value, its tests, and the answer
record Case : Type 0 where
  declared : ℕ
  tests : List ℕ
  answer : Approval

abbrev ◌tested◌↦→◌ : ℕ → List ℕ → Approval → Case
d tested ts ↦→ a = record { declared = d; tests = ts; answer = a }

infix 20 ◌tested◌↦→◌
table : List Case
table =
    -- the first test on the line, and one above it
    (25 tested 26 ∷ [] ↦→ value 25 1)
    ∷ (25 tested 27 ∷ [] ↦→ another)
    ∷ (100000 tested 104000 ∷ [] ↦→ value 100000 1)
    ∷ (100000 tested 104001 ∷ [] ↦→ another)
    -- the mean of two on the line, and half a thousandth above it
    ∷ (25 tested 27 ∷ 25 ∷ [] ↦→ value 25 1)
    ∷ (25 tested 27 ∷ 26 ∷ [] ↦→ another)
    ∷ (100000 tested 104001 ∷ 103999 ∷ [] ↦→ value 100000 1)
    ∷ (100000 tested 104001 ∷ 104000 ∷ [] ↦→ another)
    -- three tests: their sum and 3, also where their mean is below the declared value
    ∷ (100000 tested 104001 ∷ 104000 ∷ 90000 ∷ [] ↦→ value 298001 3)
    ∷ (25 tested 27 ∷ 26 ∷ 1 ∷ [] ↦→ value 54 3)
    -- the ends of the range
    ∷ (1 tested 1 ∷ [] ↦→ value 1 1)
    ∷ (1 tested 2 ∷ [] ↦→ another)
    ∷ (9999999 tested 9999999 ∷ [] ↦→ value 9999999 1)
    ∷ (1 tested replicate 3 9999999 ↦→ value 29999997 3)
    -- 20, before any value is looked at
    ∷ (100000 tested [] ↦→ refusal 20)
    ∷ (0 tested [] ↦→ refusal 20)
    ∷ (100000 tested replicate 4 100000 ↦→ refusal 20)
    ∷ (100000 tested replicate 4 0 ↦→ refusal 20)
    -- 21, the declared value or any test, before 22
    ∷ (0 tested 1 ∷ [] ↦→ refusal 21)
    ∷ (10000000 tested 1 ∷ [] ↦→ refusal 21)
    ∷ (100000 tested 10000000 ∷ [] ↦→ refusal 21)
    ∷ (100000 tested 104000 ∷ 0 ∷ [] ↦→ refusal 21)
    ∷ (100000 tested 104001 ∷ 103999 ∷ 10000000 ∷ [] ↦→ refusal 21)
    -- 22, a second test where the first lets the value stand, a third where the mean of two or the first does
    ∷ (100000 tested 104000 ∷ 1 ∷ [] ↦→ refusal 22)
    ∷ (100000 tested 104001 ∷ 103999 ∷ 1 ∷ [] ↦→ refusal 22)
    ∷ (100000 tested 104000 ∷ 9999999 ∷ 1 ∷ [] ↦→ refusal 22)
    ∷ []

table-holds : map (λ c. approve c.declared c.tests) table ≡ map (λ c. c.answer) table
unfolding table sum mean_fits stands decided bad_count bad_value_lem after_decision approve
table-holds = refl
