-- What a row reads in the plan's table: the machine keeps a number by its bits, and reads it back.
use Rattle.arithmetic.proofs.Basics.{◌≡◌, ◌∙◌, ℕ, ◌-◌, ◌≤◌, arith, List, ℤ, pos, negsuc, nat_abs}
use Rattle.std.proofs.Common.{w32, FitsSigned, to_z, of_z, to_z-of_z}
use Rattle.rules.specs.Plans.{Plan, last_row_lem}
use Rattle.tables.specs.Tables.{entry_at, numbers_of_lem, root_most, Lent}
use Rattle.tables.proofs.TableRows.{A-is, B-is}

-- a number as it is read
abbrev pub read : ℤ → ℤ
read z = to_z w32 (of_z w32 z)

fits : (z : ℤ) → nat_abs z ≤ root_most → FitsSigned w32 z
fits (pos n) h = record { sfits = omega arith }
fits (negsuc n) h = record { sfits = omega arith }

read_back : (z : ℤ) → nat_abs z ≤ root_most → read z ≡ z
read_back z h = to_z-of_z (fits z h)

module _ {plan : Plan} {t : List (List ℤ)} (lent : Lent plan t) {n : ℕ} (h : 3 ≤ n) (k : n ≤ last_row_lem plan) where
  pub A-read : nat_abs (numbers_of_lem plan n).A ≤ root_most → read (entry_at t (n - 3) 0) ≡ (numbers_of_lem plan n).A
  A-read m = read_back (entry_at t (n - 3) 0) (rw (A-is lent h k) m) ∙ A-is lent h k

  pub B-read : nat_abs (numbers_of_lem plan n).B ≤ root_most → read (entry_at t (n - 3) 1) ≡ (numbers_of_lem plan n).B
  B-read m = read_back (entry_at t (n - 3) 1) (rw (B-is lent h k) m) ∙ B-is lent h k
