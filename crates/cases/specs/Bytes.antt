-- Sheets written by their fields, so that a table of cases can be read.
use Rattle.std.specs.Prelude.{ℕ, zero, suc, ◌/◌, ◌%◌, List, [], ◌∷◌, ◌++◌, replicate}

-- a number in two bytes and in four, little-endian
abbrev pub u16 : ℕ → List ℕ
u16 x = x % 256 ∷ x / 256 ∷ []

abbrev pub u32 : ℕ → List ℕ
u32 x = x % 256 ∷ x / 256 % 256 ∷ x / 65536 % 256 ∷ x / 16777216 ∷ []

-- kind 1
abbrev pub pollutant : (number plan limit deviation : ℕ) → List ℕ
pollutant p plan L t = (1 ∷ p ∷ plan ∷ 0 ∷ []) ++ u32 L ++ u32 t ++ replicate 8 0

-- kind 2
abbrev pub engine : (cause x₁ x₂ x₃ x₄ : ℕ) → List ℕ
engine c x₁ x₂ x₃ x₄ = (2 ∷ 0 ∷ []) ++ u16 c ++ u32 x₁ ++ u32 x₂ ++ u32 x₃ ++ u32 x₄

-- an engine measured for pollutant 1 alone
abbrev pub measured : ℕ → List ℕ
measured x = engine 0 x 0 0 0

-- 02, F-10, "A 28-byte record has six measurements": a record of 20 bytes with "the new ones zero", and an engine with measurements 5 and 6
abbrev pub wide : List ℕ → List ℕ
wide r = r ++ replicate 8 0

abbrev pub six : (cause x₁ x₂ x₃ x₄ x₅ x₆ : ℕ) → List ℕ
six c x₁ x₂ x₃ x₄ x₅ x₆ = engine c x₁ x₂ x₃ x₄ ++ u32 x₅ ++ u32 x₆

-- kind 3
abbrev pub stop : List ℕ
stop = 3 ∷ replicate 19 0

-- kind 5, of 02, F-1
abbrev pub small_engine_lem : (volume speed date : ℕ) → List ℕ
small_engine_lem v n d = (5 ∷ 0 ∷ []) ++ u16 v ++ u16 n ++ (0 ∷ 0 ∷ []) ++ u32 d ++ replicate 8 0

-- kind 6, of 02, F-2; of pollutant 1 alone; and of six pollutants
abbrev pub run_in_lem : (v₁ v₂ v₃ v₄ : ℕ) → List ℕ
run_in_lem v₁ v₂ v₃ v₄ = (6 ∷ replicate 3 0) ++ u32 v₁ ++ u32 v₂ ++ u32 v₃ ++ u32 v₄

abbrev pub ran_in : ℕ → List ℕ
ran_in v = run_in_lem v 0 0 0

abbrev pub six_run_in : (v₁ v₂ v₃ v₄ v₅ v₆ : ℕ) → List ℕ
six_run_in v₁ v₂ v₃ v₄ v₅ v₆ = run_in_lem v₁ v₂ v₃ v₄ ++ u32 v₅ ++ u32 v₆

abbrev pub times : ℕ → List ℕ → List ℕ
times zero b = []
times (suc n) b = b ++ times n b
