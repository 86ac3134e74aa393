-- What the functions over the causes are called within.
use Rattle.std.specs.Prelude.{ℕ, ◌≤◌, ◌≡◌, length}
use Rattle.plan.specs.declared.Plan.TheVariants.{InService}
use Rattle.tested.specs.declared.TestedSheet.{TestedSheet}
use Rattle.tested.specs.Tested.{engines_of}

-- the first n engines of a tested sheet
pub record EnginesRange (sheet : TestedSheet) (n : ℕ) : Type 0 where
  pub some : n ≤ length (engines_of sheet)

-- a tested sheet of plan 4, and the number of its engines
pub record InServiceRange (sheet : TestedSheet) (engines : ℕ) : Type 0 where
  pub in_service : sheet.plan ≡ InService
  pub all : engines ≡ length (engines_of sheet)

-- the same of any plan
pub record GateRange (sheet : TestedSheet) (engines : ℕ) : Type 0 where
  pub all : engines ≡ length (engines_of sheet)

-- a tested sheet that has a row: three engines or more
pub record FirstRange (sheet : TestedSheet) : Type 0 where
  pub some : 3 ≤ length (engines_of sheet)
