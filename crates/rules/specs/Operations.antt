-- Document 01, "Other operations" with what each turns down: judge, evidence, append and report on bytes.
use Rattle.std.specs.Prelude.{ℕ, ◌+◌, ◌*◌, Bool, not, ◌||◌, cond, List, [], ◌∷◌, ◌++◌, ltb, eqb, length, take, drop, replicate}
use Rattle.rules.specs.Sheet.{Record, size, records, heading}
use Rattle.rules.specs.Series.{Pair, pair, Answer, refusal, judgement, judge_records}
use Rattle.rules.specs.Refusals.{Check, accepted, refused, check}

-- ---- judge

abbrev pub judge_by : (w q : ℕ) → Check → List Record → Answer
judge_by w q accepted rs = judge_records w q rs
judge_by w q (refused number place) rs = refusal number place

-- "It returns number and record counted from 0"
unfoldable pub judge : (w q : ℕ) → List ℕ → Answer
judge w q b = judge_by w q (check w b) (records w b)

-- ---- evidence

-- the bytes through the record of engine n, which stands behind the heading and n − 1 engines
abbrev pub through : (w n : ℕ) → List ℕ → List ℕ
through w n b = take (size w * (length (heading (records w b)) + n)) b

-- "through the deciding engine's record; the whole sheet where undecided, stopped or referred", and so where held, which "counts as
-- undecided" (02, F-5): the ground tells which
abbrev pub evidence_by : (w : ℕ) → Answer → List ℕ → List ℕ
evidence_by w (refusal number place) b = []
evidence_by w (judgement verdict n grounds pairs) b = cond (eqb grounds 1 || eqb grounds 2) (through w n b) b

-- "Evidence hands back the part of the sheet from its start"; "as judge, with an empty part"
unfoldable pub evidence : (w q : ℕ) → List ℕ → List ℕ
evidence w q b = evidence_by w (judge w q b) b

-- ---- what append and report return

-- "gets number × 256 + record. Both return number 0 and record 0 on success."
abbrev pub code : Check → ℕ
code accepted = 0
code (refused number place) = number * 256 + place

abbrev pub and_then : Check → Check → Check
and_then accepted c = c
and_then (refused number place) c = refused number place

-- what a lent memory holds afterwards: `changed` on success, and on a refusal what it held
abbrev pub on_success : Check → (changed unchanged : List ℕ) → List ℕ
on_success accepted changed unchanged = changed
on_success (refused number place) changed unchanged = unchanged

-- ---- append: the record r, to the sheet in the first u bytes of the buffer b

-- "13, fewer than 20 bytes after u, or u beyond the buffer"
unfoldable pub no_room : (w : ℕ) → (b : List ℕ) → (u : ℕ) → Bool
no_room w b u = ltb (length (drop u b)) (size w) || ltb (length b) u

-- "1 to 12 for the sheet there, unless u = 0; 1 to 12 for the joined sheet"; 02, F-1: "a sheet's new refusals stand with 1 to 12 in append"
unfoldable pub joined : (w : ℕ) → (sheet r : List ℕ) → Check
joined w s r = and_then (cond (eqb (length s) 0) accepted (check w s)) (check w (s ++ r))

-- "in this order: 14, record not 20 bytes; 13, ..; 1 to 12 .."
unfoldable pub append : (w : ℕ) → (b : List ℕ) → (u : ℕ) → (r : List ℕ) → Check
append w b u r = cond (not (eqb (length r) (size w))) (refused 14 0) (cond (no_room w b u) (refused 13 0) (joined w (take u b) r))

-- "On success only the 20 bytes at u change."
unfoldable pub appended : (w : ℕ) → (b : List ℕ) → (u : ℕ) → (r : List ℕ) → List ℕ
appended w b u r = on_success (append w b u r) (take u b ++ (r ++ drop (u + size w) b)) b

-- ---- report: on the sheet b, into the output o

abbrev pub pair_bytes : List Pair → List ℕ
pair_bytes [] = []
pair_bytes (pair decision engine ∷ ps) = decision ∷ engine ∷ pair_bytes ps

-- "16 as the mark of a report, verdict, ground, engine, four pairs of decision and engine, pollutant 1 first, eight zeros"
abbrev pub report_bytes : (w : ℕ) → Answer → List ℕ
report_bytes w (refusal number place) = []
report_bytes w (judgement verdict engine grounds pairs) = 16 ∷ verdict ∷ grounds ∷ engine ∷ (pair_bytes pairs ++ replicate (2 * w) 0)

-- "15, output under 20 bytes, record 0; then as judge"
unfoldable pub report : (w : ℕ) → (b o : List ℕ) → Check
report w b o = cond (ltb (length o) (size w)) (refused 15 0) (check w b)

-- "Report writes 20 bytes", "Bytes past 20 stay."
unfoldable pub reported : (w q : ℕ) → (b o : List ℕ) → List ℕ
reported w q b o = on_success (report w b o) (report_bytes w (judge w q b) ++ drop (size w) o) o
