-- The check of document 01 before document 02's requests, and the kinds that these added.
use Rattle.std.specs.Prelude.{ℕ, ◌+◌, Bool, ◌||◌, eqb}
use Rattle.rules.specs.Tools.{within}
use Rattle.rules.specs.Sheet.{Record, pollutant_kind, stop_kind, small_engine_kind, run_in_kind, kind, of_kind}
use Rattle.before.specs.Operations.{Old}

-- "at most 37": each pollutant once, 32 engines and a stop; 02, F-10: "A sheet of the new size holds two records more"
abbrev pub most : (w : ℕ) → ℕ
most w = w + 33

-- "2, kind not 1 to 3"; refusals 16 to 18 are F-1's, and 19 is F-2's; the pollutants stood before the first engine
abbrev pub document : Old
document = record {
  most = most;
  is_kind = λ k. within pollutant_kind stop_kind k;
  is_later = λ n. within 16 19 n;
  heading = λ rs. of_kind pollutant_kind rs;
}

-- a record of a kind that came after
abbrev pub is_new : Record → Bool
is_new r = eqb (kind r) small_engine_kind || eqb (kind r) run_in_kind
