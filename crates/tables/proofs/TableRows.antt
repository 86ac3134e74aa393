-- What is read in a table for a row is the row's number in the definitions; its signs and its size. A table is checked as a whole, by computing it.
use Rattle.arithmetic.proofs.Basics.{◌≡◌, refl, sym, ◌∙◌, subst, List, [], map, ℕ, zero, suc, ◌+◌, ◌-◌, ◌≤◌, ◌<◌, arith, length, length-map, get_or, ap}
use Rattle.arithmetic.proofs.Basics.{Bool, true, cond, ◌&&◌, never, and-true, leb, leb-true, eqb, ℤ, pos, neg_ℤ, nat_abs}
use Rattle.std.specs.Prelude.{None, is_some}
use Rattle.arithmetic.proofs.Tables.{entry, column}
use Rattle.rules.specs.Plans.{Plan, known_deviation_lem, unknown_deviation_lem, attributes, in_service_lem, corrected, last_row_lem, known_a, known_b, unknown_numbers}
use Rattle.rules.specs.Plans.{in_service_numbers, corrected_numbers, attributes_passes, attributes_fails}
use Rattle.plan.specs.declared.Plan as program
use Rattle.plan.specs.declared.Plan.TheVariants.{KnownDeviation, UnknownDeviation, Attributes, InService, Corrected}
use Rattle.plan.specs.Plan.{plan_is}
use Rattle.tables.specs.Tables.{rows_from, numbers_of_lem, row_of, table_named, Lent, entry_at, known_most, compares_roots, root_most, RootNumbers}
use Rattle.tables.specs.Tables.{PassNumbers, FailNumbers}

-- ---- what is said of the rows of a table is said of each of them

length-rows : (k count : ℕ) → length (rows_from k count) ≡ count
length-rows k zero = refl
length-rows k (suc count) = ap suc (length-rows (suc k) count)

row_at : (k count i : ℕ) → i < count → get_or (rows_from k count) i 0 ≡ k + i
row_at k zero i h = absurd (omega arith)
row_at k (suc count) zero h = omega arith
row_at k (suc count) (suc i) h = row_at (suc k) count i (omega arith) ∙ omega arith

-- f and g, computed at every row, are the same at row n
each_row : {C : Type 0} (f g : ℕ → C) (k count : ℕ) → map f (rows_from k count) ≡ map g (rows_from k count) → (n : ℕ) → k ≤ n → n < k + count → f n ≡ g n
each_row f g k count e n h l =
    let i : n - k < count = omega arith in
    subst (λ (r : ℕ). f r ≡ g r) (row_at k count (n - k) i ∙ omega arith)
    (column f g (rows_from k count) (rows_from k count) e (n - k) (rw (length-rows k count) i) 0 0)

-- ---- where `table_of` gives no table, the plan is 3

pub none-named : (plan : program.Plan) → None ≡ table_named (plan_is plan) → plan ≡ Attributes
none-named KnownDeviation e = never (ap is_some (sym e))
none-named UnknownDeviation e = never (ap is_some (sym e))
none-named Attributes e = refl
none-named InService e = never (ap is_some (sym e))
none-named Corrected e = never (ap is_some (sym e))

-- ---- row n of it

module _ {plan : Plan} {t : List (List ℤ)} (lent : Lent plan t) where
  pub rows_are : length t ≡ last_row_lem plan - 2
  rows_are = ap length lent.holds ∙ length-map (rows_from 3 (last_row_lem plan - 2)) (row_of plan) ∙ length-rows 3 (last_row_lem plan - 2)

  module _ {n : ℕ} (h : 3 ≤ n) (k : n ≤ last_row_lem plan) where
    row_is_lem : get_or t (n - 3) [] ≡ row_of plan n
    row_is_lem =
        let rows : ℕ = last_row_lem plan - 2 in
        let i : n - 3 < rows = omega arith in
        ap (λ (u : List (List ℤ)). get_or u (n - 3) []) lent.holds
        ∙ entry (row_of plan) (rows_from 3 rows) (n - 3) (rw (length-rows 3 rows) i) [] 0
        ∙ ap (row_of plan) (row_at 3 rows (n - 3) i ∙ omega arith)

    pub A-is : entry_at t (n - 3) 0 ≡ (numbers_of_lem plan n).A
    A-is = ap (λ (r : List ℤ). get_or r 0 (pos 0)) row_is_lem

    pub B-is : entry_at t (n - 3) 1 ≡ (numbers_of_lem plan n).B
    B-is = ap (λ (r : List ℤ). get_or r 1 (pos 0)) row_is_lem

-- ---- plan 1: A is below 0 in row 32 alone, and every B is

module _ {n : ℕ} (h : 3 ≤ n) (k : n ≤ 32) where
  pub known-A : cond (eqb n 32) (neg_ℤ (pos (nat_abs (known_a n)))) (pos (nat_abs (known_a n))) ≡ known_a n
  known-A = each_row (λ m. cond (eqb m 32) (neg_ℤ (pos (nat_abs (known_a m)))) (pos (nat_abs (known_a m)))) known_a 3 30 refl n h (omega arith)

  pub known-B : neg_ℤ (pos (nat_abs (known_b n))) ≡ known_b n
  known-B = each_row (λ m. neg_ℤ (pos (nat_abs (known_b m)))) known_b 3 30 refl n h (omega arith)

  pub known-most : (nat_abs (known_a n) ≤ known_most) × (nat_abs (known_b n) ≤ known_most)
  known-most =
      let f = and-true (leb (nat_abs (known_a n)) known_most) (leb (nat_abs (known_b n)) known_most)
      (each_row (λ m. leb (nat_abs (known_a m)) known_most && leb (nat_abs (known_b m)) known_most) (λ m. true) 3 30 refl n h (omega arith)) in
      (leb-true _ _ f.0, leb-true _ _ f.1)

-- ---- plans 2, 4 and 5: the numbers of every row are such that a row can be decided by them

abbrev fit : Plan → (n : ℕ) → Bool
fit plan n =
    leb (nat_abs (numbers_of_lem plan n).A) root_most
    && (leb (cond (eqb n (last_row_lem plan)) 0 1) (nat_abs (numbers_of_lem plan n).B) && leb (nat_abs (numbers_of_lem plan n).B) root_most)

abbrev above : Plan → (n : ℕ) → ℤ
above plan n = pos (nat_abs (numbers_of_lem plan n).B)

module _ {n : ℕ} (h : 3 ≤ n) where
  numbers_fit : (plan : Plan) → let rows = rows_from 3 (last_row_lem plan - 2) in
      map (fit plan) rows ≡ map (λ m. true) rows → map (above plan) rows ≡ map (λ m. (numbers_of_lem plan m).B) rows → n ≤ last_row_lem plan
      → RootNumbers (eqb n (last_row_lem plan)) (numbers_of_lem plan n).A (numbers_of_lem plan n).B
  numbers_fit plan e s k =
      let rows : ℕ = last_row_lem plan - 2 in
      let a : ℕ = nat_abs (numbers_of_lem plan n).A in
      let b : ℕ = nat_abs (numbers_of_lem plan n).B in
      let least : ℕ = cond (eqb n (last_row_lem plan)) 0 1 in
      let f = and-true (leb a root_most) (leb least b && leb b root_most) (each_row (fit plan) (λ m. true) 3 rows e n h (omega arith)) in
      let g = and-true (leb least b) (leb b root_most) f.1 in
      let l : least ≤ b = leb-true least b g.0 in
      record {
        A-most = leb-true a root_most f.0;
        B-is = each_row (above plan) (λ m. (numbers_of_lem plan m).B) 3 rows s n h (omega arith);
        B-least = λ z. rw z at l;
        B-most = leb-true b root_most g.1;
      }

  -- each table, computed
  pub root-numbers : (plan : Plan) → compares_roots plan ≡ true → n ≤ last_row_lem plan
      → RootNumbers (eqb n (last_row_lem plan)) (numbers_of_lem plan n).A (numbers_of_lem plan n).B
  unfolding unknown_numbers in_service_numbers corrected_numbers
  root-numbers known_deviation_lem c = never (sym c)
  root-numbers unknown_deviation_lem c = numbers_fit unknown_deviation_lem refl refl
  root-numbers attributes c = never (sym c)
  root-numbers in_service_lem c = numbers_fit in_service_lem refl refl
  root-numbers corrected c = numbers_fit corrected refl refl

-- ---- plan 3

at_count : {f g : ℕ → Bool} → f ≡ g → (c : ℕ) → f c ≡ g c
at_count e c = ap (λ (f : ℕ → Bool). f c) e

module _ (xs : List ℕ) where
  -- the tests of row n by the numbers xs
  abbrev passes_by : (n c : ℕ) → Bool
  passes_by n c = leb c (get_or xs (n - 4) 0)

  abbrev fails_by : (n c : ℕ) → Bool
  fails_by n c = leb (get_or xs (n - 3) 0) c

  pub passes-are : map attributes_passes (rows_from 4 16) ≡ map passes_by (rows_from 4 16) → PassNumbers xs
  passes-are e = record { passes = λ n h k. at_count (each_row attributes_passes passes_by 4 16 e n h (omega arith)) }

  pub fails-are : map attributes_fails (rows_from 3 17) ≡ map fails_by (rows_from 3 17) → FailNumbers xs
  fails-are e = record { fails = λ n h k. at_count (each_row attributes_fails fails_by 3 17 e n h (omega arith)) }
