-- Document 02, F-5, "the verdict is 4, printed `held`, at that row": which row that is, for every w and q.
use Rattle.arithmetic.proofs.Basics.{ℕ, zero, suc, ◌-◌, ◌≤◌, max, arith, ◌≡◌, refl, sym, ap, ◌∙◌, ⊎_elim, true, false, ◌||◌, cond, List, [], ◌∷◌}
use Rattle.arithmetic.proofs.Basics.{take, never, or-false, or_same, by-test, lt-or-ge}
use Rattle.rules.specs.Tools.{any}
use Rattle.rules.specs.Sheet.{Record, records, engines}
use Rattle.rules.specs.Demands.{Held}
use Rattle.demands.proofs.Held.{waits, FirstPendingRow, held_first}
use Rattle.findings.specs.Pendings.{first_pending, held_row}

-- ---- the place of the first pending vehicle, by the first m of them

first-within : (es : List Record) (m : ℕ) → any waits (take m es) ≡ true → first_pending es ≤ m
first-within es zero e = never (sym e)
first-within [] (suc m) e = never (sym e)
first-within (v ∷ es) (suc m) e =
    by-test (λ t. t || any waits (take m es) ≡ true → cond t 1 (suc (first_pending es)) ≤ suc m) (waits v)
    (λ t f. omega arith) (λ t f. omega (arith, first-within es m f)) e

first-at : (es : List Record) (m : ℕ) → any waits (take m es) ≡ false → any waits (take (suc m) es) ≡ true → first_pending es ≡ suc m
first-at [] m n e = never (sym e)
first-at (v ∷ es) zero n e = rw (sym (or_same (waits v)) ∙ e) refl
first-at (v ∷ es) (suc m) n e =
    let o = or-false (waits v) (any waits (take m es)) n in
    rw o.0 (ap suc (first-at es m o.1 (rw o.0 at e)))

row_is_lem : (es : List Record) (m : ℕ) → FirstPendingRow es m → m ≡ max 3 (first_pending es)
row_is_lem es m r =
    let l = r.walked in
    let s : m ≡ suc (m - 1) = omega arith in
    ⊎_elim (λ lt. omega (arith, first-at es (m - 1) (r.not-before lt) (rw s at r.waiting))) (λ ge. omega (arith, first-within es m r.waiting))
    (lt-or-ge 3 m)

-- the engine of a held sheet is 3 or the place of its first pending vehicle, whichever is later
pub held-row : (w q : ℕ) (b : List ℕ) (h : Held w q b) → h.0 ≡ held_row w b
held-row w q b h = row_is_lem (engines (records w b)) h.0 (held_first w q b h)
