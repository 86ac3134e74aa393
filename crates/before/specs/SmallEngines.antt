-- The check of document 01 with small engines, document 02's F-1, before F-2, and the kind that F-2 added.
use Rattle.std.specs.Prelude.{ℕ, ◌+◌, Bool, ◌||◌, ◌++◌, eqb}
use Rattle.rules.specs.Tools.{within}
use Rattle.rules.specs.Sheet.{Record, pollutant_kind, stop_kind, small_engine_kind, run_in_kind, kind, of_kind}
use Rattle.before.specs.Operations.{Old}

-- F-1: "A sheet may hold 38 records.": each pollutant once, a small engine, 32 engines and a stop; F-10: "A sheet of the new size holds two
-- records more"
abbrev pub most : (w : ℕ) → ℕ
most w = w + 34

-- "2, kind not 1 to 3", and F-1: "Add record kind 5"; refusal 19 is F-2's; the pollutants and a small engine stood before the first engine
abbrev pub small_engines_lem : Old
small_engines_lem = record {
  most = most;
  is_kind = λ k. within pollutant_kind stop_kind k || eqb k small_engine_kind;
  is_later = λ n. eqb n 19;
  heading = λ rs. of_kind pollutant_kind rs ++ of_kind small_engine_kind rs;
}

-- a record of the kind that came after
abbrev pub is_new : Record → Bool
is_new r = eqb (kind r) run_in_kind
