-- The check, the judge and the evidence of rules as they were before a request of document 02, over what the request replaced of them. All
-- else is as rules has it.
use Rattle.std.specs.Prelude.{ℕ, ◌+◌, ◌*◌, ◌%◌, Bool, not, ◌||◌, cond, List, [], ◌∷◌, ◌++◌, ltb, eqb, length, take}
use Rattle.rules.specs.Tools.{those}
use Rattle.rules.specs.Sheet.{Record, size, records, kind}
use Rattle.rules.specs.Series.{Answer, refusal, judgement}
use Rattle.rules.specs.Refusals as rules
use Rattle.rules.specs.Refusals.{Fault, fault, first, Check, accepted, refused}
use Rattle.rules.specs.Operations.{judge_by}

-- what a request replaced: the greatest number of records, the kinds that there were, and the records before the first engine; and the
-- numbers of the refusals of a record that came with it or after it
pub record Old : Type 0 where
  pub most : (w : ℕ) → ℕ
  pub is_kind : (kind : ℕ) → Bool
  pub is_later : (refusal : ℕ) → Bool
  pub heading : List Record → List Record

-- whether a line of the list is as it was: none that came later, and not that of refusal 2
abbrev pub is_kept : Old → Fault → Bool
is_kept o (fault number present) = not (eqb number 2 || o.is_later number)

module _ (o : Old) where
  -- ---- the check

  -- "2, kind not ..", of the kinds that there were, and then the list of rules without the later refusals. What that list says of a later kind
  -- does not count, since 2 stands before it
  unfoldable pub faults : (w : ℕ) → (before : List Record) → Record → List Fault
  faults w before r = fault 2 (not (o.is_kind (kind r))) ∷ those (is_kept o) (rules.faults w before r)

  unfoldable pub check_from : (w : ℕ) → (before rs : List Record) → Check
  check_from w before [] = accepted
  check_from w before (r ∷ rs) =
      cond (eqb (first (faults w before r)) 0) (check_from w (before ++ (r ∷ [])) rs) (refused (first (faults w before r)) (length before))

  unfoldable pub bad_length_lem : (w bytes : ℕ) → Bool
  bad_length_lem w n = eqb n 0 || not (eqb (n % size w) 0) || ltb (o.most w * size w) n

  unfoldable pub check : (w : ℕ) → List ℕ → Check
  check w b = cond (bad_length_lem w (length b)) (refused 1 0) (check_from w [] (records w b))

  -- ---- judge

  unfoldable pub judge : (w q : ℕ) → List ℕ → Answer
  judge w q b = judge_by w q (check w b) (records w b)

  -- ---- evidence

  abbrev pub through : (w n : ℕ) → List ℕ → List ℕ
  through w n b = take (size w * (length (o.heading (records w b)) + n)) b

  abbrev pub evidence_by : (w : ℕ) → Answer → List ℕ → List ℕ
  evidence_by w (refusal number place) b = []
  evidence_by w (judgement verdict n grounds pairs) b = cond (eqb grounds 1 || eqb grounds 2) (through w n b) b

  unfoldable pub evidence : (w q : ℕ) → List ℕ → List ℕ
  evidence w q b = evidence_by w (judge w q b) b
