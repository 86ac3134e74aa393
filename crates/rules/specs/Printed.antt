-- Document 01, "Series that stand on a line", its last part: the lines that the program `verdict` prints, as bytes (ASCII).
use Rattle.std.specs.Prelude.{ℕ, zero, suc, ◌+◌, ◌/◌, ◌%◌, Bool, cond, List, [], ◌∷◌, ◌++◌, ltb}
use Rattle.rules.specs.Sheet.{Pollutant, records, declared, declares}
use Rattle.rules.specs.Series.{Pair, pair, Answer, refusal, judgement}
use Rattle.rules.specs.Operations.{judge}

-- ---- a line

-- the last digits of n in decimal, at most so many, without leading zeros
unfoldable pub last_digits : (most n : ℕ) → List ℕ
last_digits zero n = []
last_digits (suc most) n = cond (ltb n 10) [] (last_digits most (n / 10)) ++ ((48 + n % 10) ∷ [])

-- all of them: n has at most n + 1 digits
unfoldable pub decimal : ℕ → List ℕ
decimal n = last_digits (suc n) n

-- words with a space (32) between, and a newline (10)
abbrev pub line : List (List ℕ) → List ℕ
line [] = 10 ∷ []
line (word ∷ []) = word ++ (10 ∷ [])
line (word ∷ next ∷ words) = word ++ (32 ∷ line (next ∷ words))

-- ---- words

-- "verdict word (another, pass, fail, referred)", of 0, 1, 2 and 3; 02, F-5: "the verdict is 4, printed `held`"
abbrev pub verdict_word : (verdict : ℕ) → List ℕ
verdict_word zero = 97 ∷ 110 ∷ 111 ∷ 116 ∷ 104 ∷ 101 ∷ 114 ∷ []
verdict_word (suc zero) = 112 ∷ 97 ∷ 115 ∷ 115 ∷ []
verdict_word (suc (suc zero)) = 102 ∷ 97 ∷ 105 ∷ 108 ∷ []
verdict_word (suc (suc (suc zero))) = 114 ∷ 101 ∷ 102 ∷ 101 ∷ 114 ∷ 114 ∷ 101 ∷ 100 ∷ []
verdict_word (suc (suc (suc (suc v)))) = 104 ∷ 101 ∷ 108 ∷ 100 ∷ []

-- "open/pass/fail", of 0, 1 and 2
abbrev pub decision_word : (decision : ℕ) → List ℕ
decision_word zero = 111 ∷ 112 ∷ 101 ∷ 110 ∷ []
decision_word (suc zero) = 112 ∷ 97 ∷ 115 ∷ 115 ∷ []
decision_word (suc (suc d)) = 102 ∷ 97 ∷ 105 ∷ 108 ∷ []

-- "`refused`"
abbrev pub refused_word : List ℕ
refused_word = 114 ∷ 101 ∷ 102 ∷ 117 ∷ 115 ∷ 101 ∷ 100 ∷ []

-- ---- what is printed

-- "a line for each declared pollutant: number, open/pass/fail, engine"
abbrev pub pollutant_line : (declared : Bool) → (number : ℕ) → Pair → List ℕ
pollutant_line declared p (pair decision engine) = cond declared (line (decimal p ∷ decision_word decision ∷ decimal engine ∷ [])) []

-- for the pollutants from p on
abbrev pub pollutant_lines : List Pollutant → (p : ℕ) → List Pair → List ℕ
pollutant_lines ps p [] = []
pollutant_lines ps p (x ∷ pairs) = pollutant_line (declares ps p) p x ++ pollutant_lines ps (suc p) pairs

-- "Line 1: verdict word .., engine, ground"; "A refusal prints `refused`, number, record."
abbrev pub printed_by : Answer → List Pollutant → List ℕ
printed_by (refusal number place) ps = line (refused_word ∷ decimal number ∷ decimal place ∷ [])
printed_by (judgement verdict engine grounds pairs) ps =
    line (verdict_word verdict ∷ decimal engine ∷ decimal grounds ∷ []) ++ pollutant_lines ps 1 pairs

-- the lines for the bytes of a sheet
unfoldable pub printed : (w q : ℕ) → List ℕ → List ℕ
printed w q b = printed_by (judge w q b) (declared (records w b))
