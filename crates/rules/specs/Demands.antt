-- Document 01, "The series", its last part but one, and document 02, F-2 and F-5: the words of demand 3, about the bytes of whole sheets.
use Rattle.std.specs.Prelude.{ℕ, ◌+◌, ◌*◌, ◌≤◌, ◌<◌, ◌≡◌, Bool, true, false, ◌&&◌, List, [], leb, length, get_or, take}
use Rattle.rules.specs.Tools.{any, byte, four}
use Rattle.rules.specs.Sheet.{Record, size, measures, records, cause, is_pending, measurement, engines, run_ins, plan_number}
use Rattle.rules.specs.Plans.{Plan, plan_of}
use Rattle.rules.specs.Series.{Pair, Answer, judgement}
use Rattle.rules.specs.Operations.{judge}

-- the answer is the verdict v at the engine n, whatever its ground and pairs
abbrev pub Says : Answer → (v n : ℕ) → Type 0
Says a v n = (grounds : ℕ) × (pairs : List Pair) × (a ≡ judgement v n grounds pairs)

-- "and at n or sooner if that engine is at most n"
abbrev pub SaysBy : Answer → (v n : ℕ) → Type 0
SaysBy a v n = (m : ℕ) × (m ≤ n) × Says a v m

module _ (w q : ℕ) where
  -- "A sheet is accepted if judging doesn't refuse it"
  abbrev pub Accepted : List ℕ → Type 0
  Accepted b = (v : ℕ) × (n : ℕ) × Says (judge w q b) v n

  -- "and decided if its verdict is then not another"; 02, F-5: "A held sheet counts as undecided"
  abbrev pub Decided : List ℕ → Type 0
  Decided b = (v : ℕ) × (n : ℕ) × (v ≡ 0 → ⊥) × (v ≡ 4 → ⊥) × Says (judge w q b) v n

  -- 02, F-5: "the verdict is 4, printed `held`"
  abbrev pub Held : List ℕ → Type 0
  Held b = (n : ℕ) × Says (judge w q b) 4 n

  -- "It passes at n if its verdict is pass and its engine is n, and at n or sooner if that engine is at most n; fails likewise."
  abbrev pub PassesAt : List ℕ → (n : ℕ) → Type 0
  PassesAt b n = Says (judge w q b) 1 n

  abbrev pub FailsAt : List ℕ → (n : ℕ) → Type 0
  FailsAt b n = Says (judge w q b) 2 n

  abbrev pub PassesBy : List ℕ → (n : ℕ) → Type 0
  PassesBy b n = SaysBy (judge w q b) 1 n

  abbrev pub FailsBy : List ℕ → (n : ℕ) → Type 0
  FailsBy b n = SaysBy (judge w q b) 2 n

-- "A sheet S begins with a sheet R if the first bytes of S, as many as R has, are those of R."
abbrev pub Begins : (S R : List ℕ) → Type 0
Begins S R = take (length R) S ≡ R

module _ (w : ℕ) where
  -- how many engines a sheet has, and its plan
  abbrev pub engines_of : List ℕ → ℕ
  engines_of b = length (engines (records w b))

  -- 02, F-5: the sheet has "a pending vehicle"
  abbrev pub Pending : List ℕ → Type 0
  Pending b = any (λ r. is_pending (cause r)) (engines (records w b)) ≡ true

  abbrev pub plan_of_sheet : List ℕ → Plan
  plan_of_sheet b = plan_of (plan_number (records w b))

  -- byte k of record j lies in a measurement; 02, F-2: "On a run-in sheet the run-in values are measurements too"
  abbrev pub in_measurement : List ℕ → (j k : ℕ) → Bool
  in_measurement b j k = measures (byte b (size w * j)) && leb 4 k

  -- "Two sheets are alike in all but the measurements if they are equally long and every byte outside the measurements is the same in both"
  pub record Alike (R S : List ℕ) : Type 0 where
    pub equally_long : length R ≡ length S
    pub outside : (j k : ℕ) → k < size w → size w * j + k < length R → in_measurement R j k ≡ false
        → byte R (size w * j + k) ≡ byte S (size w * j + k)

  -- "none is higher in the second if each is at most the one of the same record and pollutant in the first"
  abbrev pub NoneHigher : (R S : List ℕ) → Type 0
  NoneHigher R S = (j p : ℕ) → size w * j < length R → measures (byte R (size w * j)) ≡ true → 1 ≤ p → p ≤ w
      → four S (size w * j + 4 * p) ≤ four R (size w * j + 4 * p)

  -- the sheet has no record of kind 6, which a run-in sheet has
  abbrev pub NotRunIn : List ℕ → Type 0
  NotRunIn b = run_ins (records w b) ≡ []

  abbrev pub first_engine : List ℕ → Record
  first_engine b = get_or (engines (records w b)) 0 []

  -- 02, F-2: "lowering keeps its meaning there", on a run-in sheet, "if the first engine's zero-hour values are the same in both sheets"
  abbrev pub SameZeroHours : (R S : List ℕ) → Type 0
  SameZeroHours R S = (NotRunIn R → ⊥) → (p : ℕ) → 1 ≤ p → p ≤ w → measurement (first_engine S) p ≡ measurement (first_engine R) p
