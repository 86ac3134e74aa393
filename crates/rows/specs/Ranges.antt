-- What the crate `statistics` keeps the numbers of a row within.
use Rattle.std.specs.Prelude.{◌≡◌, true, ℕ, ◌≤◌}
use Rattle.rules.specs.Plans.{Plan, attributes, last_row_lem}
use Rattle.rules.specs.Refusals.{greatest_deviation}
use Rattle.plan.specs.declared.Plan as program
use Rattle.plan.specs.declared.Plan.TheVariants.{KnownDeviation}
use Rattle.tables.specs.Tables.{compares_roots}

-- plan 3: the number of a row
pub record RowRange (n : ℕ) : Type 0 where
  pub least : 3 ≤ n
  pub most : n ≤ last_row_lem attributes

-- the most of a level, which is two logarithms, each below 24 × 2^20
abbrev pub level_most : ℕ
level_most = 50331648

-- the most that is added or taken away: two logarithms for each of up to 32 engines
abbrev pub sum_most : ℕ
sum_most = 1610612736

-- plan 1: the table's plan, a row's number, what is added, the level, and the deviation
pub record KnownRanges (plan : program.Plan) (n added level deviation : ℕ) : Type 0 where
  pub known : plan ≡ KnownDeviation
  pub least : 3 ≤ n
  pub most : n ≤ 32
  pub added-most : added ≤ sum_most
  pub level-most : level ≤ level_most
  pub deviation-most : deviation ≤ greatest_deviation

-- plans 2, 4 and 5: the number of a row of the plan, and D as what is added and what is taken away
pub record RootRanges (plan : Plan) (n added taken : ℕ) : Type 0 where
  pub compares : compares_roots plan ≡ true
  pub least : 3 ≤ n
  pub most : n ≤ last_row_lem plan
  pub added-most : added ≤ sum_most
  pub taken-most : taken ≤ sum_most
