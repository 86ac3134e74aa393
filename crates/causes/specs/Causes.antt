-- What comes before the statistics of a row as the program finds it, by the causes: accepted/proofs/BeforeRows shows that document 01's
-- `before_row` goes by them alone.
use Rattle.std.specs.Prelude.{ℕ, Bool, not, ◌&&◌, ◌||◌, cond, List, [], map, leb, eqb, length, get_or, take}
use Rattle.rules.specs.Tools.{any, those}
use Rattle.rules.specs.Sheet.{Record, cause, is_pending}
use Rattle.rules.specs.Plans.{Plan, in_service_lem}
use Rattle.rules.specs.Series as rules
use Rattle.accepted.specs.Sheets.{pollutants_in, engines_in}
use Rattle.columns.specs.Columns as columns
use Rattle.causes.specs.declared.Gate.{Gate}
use Rattle.causes.specs.declared.Gate.TheVariants.{Open, Cause, Held, Referral}

-- the cause of the vehicle behind k engines of the bytes, of w pollutants
abbrev pub cause_in : (w : ℕ) → List ℕ → (k : ℕ) → ℕ
cause_in w b k = cause (get_or (engines_in w b) k [])

-- how many of the first n engines have the cause c
abbrev pub equal_causes_lem : (w : ℕ) → List ℕ → (n c : ℕ) → ℕ
equal_causes_lem w b n c = length (those (λ r. eqb (cause r) c) (take n (engines_in w b)))

-- those of them that have a cause; whether two have an equal one that is known, and whether the finding of one is pending
abbrev pub emitters_in : (w : ℕ) → List ℕ → (n : ℕ) → List Record
emitters_in w b n = those (λ r. not (eqb (cause r) 0)) (take n (engines_in w b))

abbrev pub repeats_in : (w : ℕ) → List ℕ → (n : ℕ) → Bool
repeats_in w b n = rules.repeats (rules.known (map cause (emitters_in w b n)))

abbrev pub pending_in : (w : ℕ) → List ℕ → (n : ℕ) → Bool
pending_in w b n = any is_pending (map cause (emitters_in w b n))

-- whether a cause is known and one of the first n engines has it
unfoldable pub repeats_by : (w : ℕ) → List ℕ → (n c : ℕ) → Bool
repeats_by w b n c = not (eqb c 0 || is_pending c) && leb 1 (equal_causes_lem w b n c)

-- the program's gate as the law's
abbrev pub gate_is : Gate → columns.Gate
gate_is (Open n) = columns.open_after n
gate_is (Cause n) = columns.cause_after n
gate_is (Held n) = columns.held_after n
gate_is (Referral n) = columns.referral_after n

-- what comes before row n of the bytes, and the gate of their first n rows
abbrev pub before_in : (w : ℕ) → Plan → List ℕ → ℕ → rules.Before
before_in w plan b = columns.before_of plan (pollutants_in w b) (engines_in w b)

abbrev pub gate_of_lem : (w : ℕ) → Plan → List ℕ → (n : ℕ) → columns.Gate
gate_of_lem w plan b n = columns.gate (before_in w plan b) n

abbrev pub in_service_gate_lem : (w : ℕ) → List ℕ → (n : ℕ) → columns.Gate
in_service_gate_lem w b n = gate_of_lem w in_service_lem b n

-- the first row that is looked at: row 3, and row 4 where one of the first three vehicles is a gross emitter
unfoldable pub first_row_lem : (w : ℕ) → List ℕ → ℕ
first_row_lem w b = cond (any (λ r. not (eqb (cause r) 0)) (take 3 (engines_in w b))) 4 3
