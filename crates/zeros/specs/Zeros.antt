-- Refusal 12 as the program asks for it; proofs/ZeroBytes: it is document 01's.
use Rattle.std.specs.Prelude.{Bool, false, not, ◌||◌, eqb}
use Rattle.rules.specs.Tools.{byte, two, four}
use Rattle.rules.specs.Sheet.{Record}
use Rattle.layout.specs.declared.Size.{Size}
use Rattle.layout.specs.declared.Size.TheVariants.{Twenty, TwentyEight}

-- 12, of each kind: the bytes that must be zero, as numbers; the bytes behind the first 20 are those of a record of 28
abbrev pub unused_behind_lem : Size → Record → Bool
unused_behind_lem Twenty r = false
unused_behind_lem TwentyEight r = not (eqb (four r 20) 0) || not (eqb (four r 24) 0)

abbrev pub unused_from_twelve_lem : Size → Record → Bool
unused_from_twelve_lem z r = not (eqb (four r 12) 0) || not (eqb (four r 16) 0) || unused_behind_lem z r

-- of each kind, where `rest` says whether a byte from 12 on is not zero
abbrev pub pollutant_unused_lem : Record → (rest : Bool) → Bool
pollutant_unused_lem r rest = not (eqb (byte r 3) 0) || rest

abbrev pub engine_unused : Record → Bool
engine_unused r = not (eqb (byte r 1) 0)

abbrev pub stop_unused_lem : Record → (rest : Bool) → Bool
stop_unused_lem r rest =
    not (eqb (byte r 1) 0)
    || not (eqb (two r 2) 0)
    || not (eqb (four r 4) 0)
    || not (eqb (four r 8) 0)
    || rest

abbrev pub small_engine_unused_lem : Record → (rest : Bool) → Bool
small_engine_unused_lem r rest = not (eqb (byte r 1) 0) || not (eqb (two r 6) 0) || rest

-- of run-in values: bytes 1 to 3, the second and third of which an engine has its cause in
abbrev pub run_in_unused : Record → Bool
run_in_unused r = not (eqb (byte r 1) 0) || not (eqb (two r 2) 0)
