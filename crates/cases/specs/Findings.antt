-- Document 02, F-5: sheets with a pending vehicle, what is judged of them, and findings that are entered. Each of the checks is computed.
use Rattle.std.specs.Prelude.{ℕ, ◌≡◌, refl, List, [], ◌∷◌, ◌++◌, map, replicate}
use Rattle.rules.specs.Logarithm.{squarings}
use Rattle.rules.specs.Sheet.{pollutants, pending}
use Rattle.rules.specs.Series.{pair, refusal, judgement}
use Rattle.rules.specs.Refusals.{Check, accepted, refused}
use Rattle.rules.specs.Operations.{judge, evidence}
use Rattle.rules.specs.Printed as lines
use Rattle.rules.specs.Sizes.{judge_sized}
use Rattle.rules.specs.Findings.{no_pending, put_two, enter, entered, enter_sized, entered_sized}
use Rattle.cases.specs.Bytes.{pollutant, engine, measured, wide, six, times}
use Rattle.cases.specs.Judged.{judged}
use Rattle.cases.specs.Table.{Case, ◌↦→◌, one}
use Rattle.cases.specs.Sizes.{Line, ◌is◌}

-- plan 4, pollutant 1 with the limit 1000; a gross emitter of this cause, and one whose finding is pending
abbrev thousand : List ℕ
thousand = pollutant 1 4 1000 0

abbrev emitter : (cause : ℕ) → List ℕ
emitter c = engine c 1600 0 0 0

abbrev sought : List ℕ
sought = emitter pending

-- ---- what is judged

table : List Case
table =
    -- the request's series: held at row 3; below it there is no row
    (thousand ++ sought ++ times 2 (measured 900) ↦→ one 4 3 5 0 0)
    ∷ (thousand ++ sought ++ measured 900 ↦→ one 0 2 0 0 0)
    -- "two equal known causes still fail the series", before the pending vehicle and behind it
    ∷ (thousand ++ times 2 (emitter 7) ++ sought ↦→ one 2 3 2 0 0)
    ∷ (thousand ++ sought ++ times 2 (emitter 7) ↦→ one 2 3 2 0 0)
    -- and two pending ones are not equal
    ∷ (thousand ++ times 2 sought ++ measured 900 ↦→ one 4 3 5 0 0)
    ∷ (thousand ++ times 3 sought ↦→ one 4 3 5 0 0)
    -- decided before the pending vehicle, and held at its row otherwise: at row 4, whose statistics would have passed
    ∷ (thousand ++ times 3 (measured 500) ++ sought ↦→ one 1 3 1 1 3)
    ∷ (thousand ++ emitter 7 ++ times 2 (measured 20) ++ sought ↦→ one 4 4 5 0 0)
    ∷ (thousand ++ emitter 7 ++ times 2 (measured 20) ++ emitter 8 ↦→ one 1 4 1 1 4)
    -- "Vehicles may be appended meanwhile": equal causes that are complete behind the row do not count
    ∷ (thousand ++ sought ++ times 2 (measured 900) ++ times 2 (emitter 7) ↦→ one 4 3 5 0 0)
    -- "open pollutants stay open", and one that has passed keeps its decision
    ∷ (thousand ++ pollutant 2 4 1000 0 ++ engine 0 500 1200 0 0 ++ engine 0 500 900 0 0 ++ engine 0 500 1200 0 0 ++ engine pending 500 1600 0 0 ↦→ judgement 4 4 5 (pair 1 3 ∷ replicate 3 (pair 0 0)))
    -- "refusal 9 admits it there": of a gross emitter in plan 4, and nowhere else
    ∷ (thousand ++ engine pending 1500 0 0 0 ↦→ refusal 9 1)
    ∷ (pollutant 1 2 1000 0 ++ sought ↦→ refusal 9 1)
    ∷ []

table-holds : map (λ c. judge pollutants squarings c.sheet) table ≡ map (λ c. c.answer) table
unfolding table judged
table-holds = refl

-- of 28-byte records, a gross emitter by pollutant 6
wide-held : judge_sized 28 squarings (wide (pollutant 6 4 1000 0) ++ six pending 0 0 0 0 0 1501 ++ times 2 (six 0 0 0 0 0 0 20)) ≡ judgement 4 3 5 (replicate 6 (pair 0 0))
unfolding judged judge_sized
wide-held = refl

abbrev held_sheet : List ℕ
held_sheet = thousand ++ sought ++ times 2 (measured 900)

-- "printed `held`": "held 3 5", "1 open 0"
held-lines : lines.printed pollutants squarings held_sheet
    ≡ 104 ∷ 101 ∷ 108 ∷ 100 ∷ 32 ∷ 51 ∷ 32 ∷ 53 ∷ 10 ∷ 49 ∷ 32 ∷ 111 ∷ 112 ∷ 101 ∷ 110 ∷ 32 ∷ 48 ∷ 10 ∷ []
unfolding judged lines.last_digits lines.decimal lines.printed
held-lines = refl

-- its evidence is the whole sheet, also with vehicles behind the row
held-evidence : evidence pollutants squarings (held_sheet ++ measured 900) ≡ held_sheet ++ measured 900
unfolding judged evidence
held-evidence = refl

-- ---- findings

-- the request's sheet, and the same with a cause in the place of what is pending
abbrev with_cause : (cause : ℕ) → List ℕ
with_cause c = thousand ++ emitter c ++ measured 900 ++ emitter 7

calls : List (Line Check)
calls =
    (enter pollutants (with_cause pending) 1 7 is accepted)
    ∷ (enter pollutants (with_cause pending) 1 65534 is accepted)
    -- "23, no pending vehicle at that engine, counted from 1": none, no gross emitter, one that is known, and behind the last
    ∷ (enter pollutants (with_cause pending) 0 7 is refused 23 0)
    ∷ (enter pollutants (with_cause pending) 2 7 is refused 23 0)
    ∷ (enter pollutants (with_cause pending) 3 7 is refused 23 0)
    ∷ (enter pollutants (with_cause pending) 4 7 is refused 23 0)
    -- "24, finding not 1 to 65,534, after 23"
    ∷ (enter pollutants (with_cause pending) 1 0 is refused 24 0)
    ∷ (enter pollutants (with_cause pending) 1 pending is refused 24 0)
    ∷ (enter pollutants (with_cause pending) 1 65543 is refused 24 0)
    ∷ (enter pollutants (with_cause pending) 3 0 is refused 23 0)
    -- "the sheet's own number", before both; and 30 before every other
    ∷ (enter pollutants (with_cause 0) 1 0 is refused 9 1)
    ∷ (enter_sized 20 (with_cause pending) 1 7 is accepted)
    ∷ (enter_sized 28 (with_cause pending) 1 0 is refused 1 0)
    ∷ (enter_sized 24 [] 0 0 is refused 30 0)
    ∷ []

calls-hold : map (λ l. l.found) calls ≡ map (λ l. l.expected) calls
unfolding calls judged no_pending enter enter_sized
calls-hold = refl

-- "changes only that record's two cause bytes"; a call that is turned away changes none; and a finding behind the decision is entered too
memory : List (Line (List ℕ))
memory =
    (entered pollutants (with_cause pending) 1 258 is with_cause 258)
    ∷ (entered pollutants (with_cause pending) 1 pending is with_cause pending)
    ∷ (entered pollutants (thousand ++ times 3 (measured 500) ++ sought) 4 7 is thousand ++ times 3 (measured 500) ++ emitter 7)
    ∷ (entered_sized 28 (wide thousand ++ six pending 1600 0 0 0 0 0) 1 7 is wide thousand ++ six 7 1600 0 0 0 0 0)
    ∷ (entered_sized 24 (with_cause pending) 1 7 is with_cause pending)
    ∷ []

memory-holds : map (λ l. l.found) memory ≡ map (λ l. l.expected) memory
unfolding memory judged no_pending put_two enter entered entered_sized
memory-holds = refl

-- the request's sheet is held, and judged after the finding as if the cause had stood there from the start
after-findings : map (judge pollutants squarings) (with_cause pending ∷ with_cause 7 ∷ with_cause 8 ∷ []) ≡ one 4 3 5 0 0 ∷ one 2 3 2 0 0 ∷ one 0 3 0 0 0 ∷ []
unfolding judged
after-findings = refl
