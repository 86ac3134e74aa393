-- Document 02, F-10, "Callers name the size": what each operation answers by the size of a record, 20 or 28 bytes.
use Rattle.std.specs.Prelude.{ℕ, ◌-◌, ◌/◌, Bool, not, ◌||◌, cond, List, [], ◌++◌, eqb, replicate}
use Rattle.rules.specs.Sheet.{Record, pollutants, more_pollutants, size, records}
use Rattle.rules.specs.Series.{pair, Answer, refusal, judgement}
use Rattle.rules.specs.Refusals.{Check, refused, check}
use Rattle.rules.specs.Operations.{judge, evidence, append, appended, report, reported}

-- the pollutants that a record of s bytes has room for
abbrev pub width : (s : ℕ) → ℕ
width s = (s - 4) / 4

-- "size not 20 or 28"
abbrev pub unknown_size : (s : ℕ) → Bool
unknown_size s = not (eqb s (size pollutants) || eqb s (size more_pollutants))

-- an answer by the size s: one for a size that there is not, and one for the pollutants that a record has room for
abbrev pub sized : {A : Type 0} → (s : ℕ) → (unknown : A) → (known : (w : ℕ) → A) → A
sized s unknown known = cond (unknown_size s) unknown (known (width s))

-- ---- "30, size not 20 or 28, before every other": a sheet of another size has no records

unfoldable pub records_sized : (s : ℕ) → List ℕ → List Record
records_sized s b = sized s [] (λ w. records w b)

unfoldable pub check_sized : (s : ℕ) → List ℕ → Check
check_sized s b = sized s (refused 30 0) (λ w. check w b)

unfoldable pub judge_sized : (s q : ℕ) → List ℕ → Answer
judge_sized s q b = sized s (refusal 30 0) (λ w. judge w q b)

unfoldable pub evidence_sized : (s q : ℕ) → List ℕ → List ℕ
evidence_sized s q b = sized s [] (λ w. evidence w q b)

unfoldable pub append_sized : (s : ℕ) → (b : List ℕ) → (u : ℕ) → (r : List ℕ) → Check
append_sized s b u r = sized s (refused 30 0) (λ w. append w b u r)

unfoldable pub appended_sized : (s : ℕ) → (b : List ℕ) → (u : ℕ) → (r : List ℕ) → List ℕ
appended_sized s b u r = sized s b (λ w. appended w b u r)

unfoldable pub report_sized : (s : ℕ) → (b o : List ℕ) → Check
report_sized s b o = sized s (refused 30 0) (λ w. report w b o)

unfoldable pub reported_sized : (s q : ℕ) → (b o : List ℕ) → List ℕ
reported_sized s q b o = sized s o (λ w. reported w q b o)

-- ---- one answer for both sizes

-- an answer with k more pairs, all open
abbrev pub open_pairs : (k : ℕ) → Answer → Answer
open_pairs k (refusal number place) = refusal number place
open_pairs k (judgement verdict engine grounds pairs) = judgement verdict engine grounds (pairs ++ replicate k (pair 0 0))
