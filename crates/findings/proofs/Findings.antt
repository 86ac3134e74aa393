-- Document 02, F-5, "A verdict other than held is the same under every finding that could follow.": about the bytes of whole sheets, whatever w
-- and q; the product's are at the end.
use Rattle.arithmetic.proofs.Basics.{ℕ, suc, ◌+◌, ◌≡◌, refl, sym, ap, ◌∙◌, ◌⊎◌, List, [], ◌∷◌, ◌++◌, eqb, length, length-append, eqb-true, any-without, those-without}
use Rattle.rules.specs.Logarithm.{squarings}
use Rattle.rules.specs.Sheet.{Record, pollutants, more_pollutants, engine_kind, stop_kind, run_in_kind, kind, of_kind, engines, run_ins, stopped, plan_number, declared}
use Rattle.rules.specs.Plans.{in_service_lem, number_of, plan_of}
use Rattle.rules.specs.Series.{after, answer, judge_records}
use Rattle.rules.specs.Refusals.{Check, accepted, refused, check}
use Rattle.rules.specs.Operations.{judge}
use Rattle.rules.specs.Findings.{enter, entered, Finding, entered_all}
use Rattle.rules.specs.Demands.{Says, Accepted, Held}
use Rattle.accepted.proofs.Faultless.{Clean, sound, sound-accepted}
use Rattle.accepted.proofs.Sheets.{plan-of-number}
use Rattle.answers.proofs.Answers.{judge-accepted, accepted-judgement}
use Rattle.findings.proofs.Entry.{Found, found-kind, engines-with, enter-checked, entry}
use Rattle.findings.proofs.Entering.{length-stays}
use Rattle.findings.proofs.Accepting.{same-plan, same-declared, found-clean, vehicle-gross, found-gross}
use Rattle.findings.proofs.Series.{after_kept, answer-kept}

-- ---- the records of a sheet, with the vehicle's and with the one in its place

-- how many engines with either
abbrev count : (us ws : List Record) → ℕ
count us ws = length (engines us) + suc (length (engines ws))

module _ (w q : ℕ) (us : List Record) {v f : Record} (ws : List Record) (c : Found v f) (clean : Clean w [] (us ++ (v ∷ ws))) where
  judged-with : (r : Record) → kind r ≡ engine_kind
      → judge_records w q (us ++ (r ∷ ws))
      ≡ answer w (stopped (us ++ ws)) (count us ws)
      (after in_service_lem (declared us) (run_ins (us ++ ws)) q (engines us ++ (r ∷ engines ws)) (count us ws))
  unfolding judge_records of_kind
  judged-with r k =
      let p : plan_of (plan_number (us ++ (r ∷ ws))) ≡ in_service_lem =
      ap plan_of (same-plan w us ws c clean (r ∷ ws) ∙ eqb-true (plan_number us) (number_of in_service_lem) (vehicle-gross w us ws c clean).0) ∙ plan-of-number in_service_lem in
      rw (
        p,
        same-declared w us ws c clean r k,
        any-without (λ b. eqb (kind b) stop_kind) us r ws (rw k refl),
        those-without (λ b. eqb (kind b) run_in_kind) us r ws (rw k refl),
        engines-with us r ws k,
        length-append (engines us) (r ∷ engines ws),
      ) refl

  records-judged : ((n : ℕ) → Says (judge_records w q (us ++ (v ∷ ws))) 4 n → ⊥) → judge_records w q (us ++ (f ∷ ws)) ≡ judge_records w q (us ++ (v ∷ ws))
  records-judged h =
      let j = judged-with v c.engine in
      rw (judged-with f (found-kind c), j)
      (answer-kept w (stopped (us ++ ws)) (count us ws) _ _
      (after_kept (declared us) (run_ins (us ++ ws)) q (engines us) (engines ws) c (vehicle-gross w us ws c clean).1 (found-gross w us ws c clean)
      (count us ws))
      (rw j at h))

-- ---- one finding

-- a call that is turned away changes nothing
by_call : (w : ℕ) (b : List ℕ) (n x : ℕ) (P : List ℕ → Type 0) → P b → (enter w b n x ≡ accepted → P (entered w b n x)) → P (entered w b n x)
unfolding entered
by_call w b n x P same h = cases (enter w b n x) refl
  where
    cases : (c : Check) → enter w b n x ≡ c → P (entered w b n x)
    cases accepted e = h e
    cases (refused number place) e = rw e same

entered-checked : (w : ℕ) (b : List ℕ) (n x : ℕ) → enter w b n x ≡ accepted → check w (entered w b n x) ≡ accepted
entered-checked w b n x e =
    let t = entry w b n x e in
    let s = sound w b (enter-checked w b n x e) in
    let l = length-stays w b n x e in
    sound-accepted w (entered w b n x)
    (record {
      some = rw l s.some;
      whole = rw l s.whole;
      longest = rw l s.longest;
      clean = rw t.are (found-clean w t.ahead t.behind t.change (rw t.were at s.clean));
    })

module _ (w q : ℕ) where
  -- a finding keeps a sheet accepted
  pub finding-accepted : (b : List ℕ) (n x : ℕ) → Accepted w q b → Accepted w q (entered w b n x)
  finding-accepted b n x a = by_call w b n x (Accepted w q) a (λ e. accepted-judgement w q (entered w b n x) (entered-checked w b n x e))

  -- and keeps what is judged of it, unless it is held
  pub finding-judged : (b : List ℕ) (n x : ℕ) → (Held w q b → ⊥) → judge w q (entered w b n x) ≡ judge w q b
  finding-judged b n x h =
      by_call w b n x (λ S. judge w q S ≡ judge w q b) refl
      (λ e.
      let t = entry w b n x e in
      let c = enter-checked w b n x e in
      let j = judge-accepted w q b c ∙ ap (judge_records w q) t.were in
      judge-accepted w q (entered w b n x) (entered-checked w b n x e) ∙ ap (judge_records w q) t.are
      ∙ records-judged w q t.ahead t.behind t.change (rw t.were at (sound w b c).clean) (λ m s. h (m, rw (← j) at s))
      ∙ sym j)

  -- ---- so does any number of them, in any order, some of them turned away

  pub findings-accepted : (fs : List Finding) (b : List ℕ) → Accepted w q b → Accepted w q (entered_all w fs b)
  findings-accepted [] b a = a
  findings-accepted (f ∷ fs) b a = findings-accepted fs (entered w b f.engine f.found) (finding-accepted b f.engine f.found a)

  pub findings-judged : (fs : List Finding) (b : List ℕ) → (Held w q b → ⊥) → judge w q (entered_all w fs b) ≡ judge w q b
  findings-judged [] b h = refl
  findings-judged (f ∷ fs) b h =
      let e = finding-judged b f.engine f.found h in
      findings-judged fs (entered w b f.engine f.found) (λ k. h (rw e at k)) ∙ e

-- ---- as the product has it: four pollutants or six, twenty squarings

module _ (w : ℕ) (either : (w ≡ pollutants) ⊎ (w ≡ more_pollutants)) where
  pub unheld-stays : (fs : List Finding) (b : List ℕ) → Accepted w squarings b → (Held w squarings b → ⊥)
      → Accepted w squarings (entered_all w fs b) × (judge w squarings (entered_all w fs b) ≡ judge w squarings b)
  unheld-stays fs b a h = (findings-accepted w squarings fs b a, findings-judged w squarings fs b h)
