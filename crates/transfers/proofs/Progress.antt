-- A transfer keeps within its bytes, and each answer brings it nearer to its end.
use Rattle.arithmetic.proofs.Basics.{ℕ, zero, suc, ◌+◌, ◌-◌, ◌*◌, ◌≤◌, ◌<◌, arith, ◌≡◌, sym, ◌∙◌, subst, Bool, false, cond, leb, leb-true, leb-false, by-test}
use Rattle.std.specs.Prelude.{Option, Some, None, Result, Ok, Err}
use Rattle.std.specs.IoError.{error_kind}
use Rattle.std.specs.declared.io.Error.{Error}
use Rattle.std.specs.declared.ops.ControlFlow.TheVariants.{Continue, Break}
use Rattle.transfers.specs.declared.Underway.{Underway}
use Rattle.transfers.specs.declared.Transfer.TheVariants.{Full}
use Rattle.transfers.specs.Transfers.{Answer, Flow, patience, further, after_failure, pause_before, next, Room, Over}

-- on its way a transfer has bytes to move; behind it, what `Over` says
abbrev pub Going : (size : ℕ) → Flow → Type 0
Going size (Continue u) = u.moved < size
Going size (Break t) = Over t size

-- the calls that may still come, at most
abbrev pub left : (size : ℕ) → Flow → ℕ
left size (Continue u) = (size - u.moved) * suc patience + suc u.tries
left size (Break t) = 0

-- what holds of a transfer that is full, and of one that goes on, holds of the one that so many moved bytes lead to
pub further-is : (P : Flow → Type 0) (size moved : ℕ) (failed : Option Error) → (size ≤ moved → P (Break (Full moved)))
    → (moved < size → P (Continue (record { moved = moved; tries = patience; pause = false; failed = failed }))) → P (further size moved failed)
further-is P size moved failed full on =
    by-test (λ t. P (cond t (Break (Full moved)) (Continue (record { moved = moved; tries = patience; pause = false; failed = failed })))) (leb size moved)
    (λ e. full (leb-true size moved e)) (λ e. on (leb-false size moved e))

-- of a transfer that failed nothing is said
abbrev pub OnFlow : (Flow → Type 0) → Result Flow Error → Type 0
OnFlow P (Ok f) = P f
OnFlow P (Err e) = Unit {0}

failure-is : (P : Flow → Type 0) (moved tries : ℕ) (e : Error) (pause : Option Bool)
    → ((fewer : ℕ) (p : Bool) → tries ≡ suc fewer → P (Continue (record { moved = moved; tries = fewer; pause = p; failed = Some e }))) → OnFlow P (after_failure moved tries e pause)
failure-is P moved tries e None h = tt
failure-is P moved zero e (Some p) h = tt
failure-is P moved (suc tries) e (Some p) h = h tries p (omega arith)

next-going : (size moved tries : ℕ) (failed : Option Error) (a : Answer) → moved < size → Room size moved a → OnFlow (Going size) (next size moved tries failed a)
next-going size moved tries failed (Ok zero) h r = h
next-going size moved tries failed (Ok (suc n)) h r = further-is (Going size) size (moved + suc n) failed (λ g. omega (arith, r.room)) (λ l. l)
next-going size moved tries failed (Err e) h r = failure-is (Going size) moved tries e (pause_before (error_kind e)) (λ fewer p s. h)

pub start-going : (size : ℕ) → Going size (further size 0 None)
start-going size = further-is (Going size) size 0 None (λ g. omega arith) (λ l. l)

next-less : (size moved tries : ℕ) (failed : Option Error) (a : Answer) → Room size moved a → OnFlow (λ f. left size f < (size - moved) * suc patience + suc tries) (next size moved tries failed a)
next-less size moved tries failed (Ok zero) r = omega arith
next-less size moved tries failed (Ok (suc n)) r =
    further-is (λ f. left size f < (size - moved) * suc patience + suc tries) size (moved + suc n) failed (λ g. omega arith) (λ l. omega (arith, r.room))
next-less size moved tries failed (Err e) r =
    failure-is (λ f. left size f < (size - moved) * suc patience + suc tries) moved tries e (pause_before (error_kind e)) (λ fewer p s. omega (arith, s))

-- ---- the transfer t that an answer a leads to, for which n bytes had room: s was on its way, and so many are wanted
module _
    {size n : ℕ} {u : Underway} {a : Answer} {s t : Flow} {r : Result Flow Error}
    (w : r ≡ Ok t) (e : r ≡ next size u.moved u.tries u.failed a) (f : s ≡ Continue u) (wanted : size ≡ n) (room : Room n u.moved a)
  where
    fits : Room size u.moved a
    fits = rw wanted room

    came : (P : Flow → Type 0) → OnFlow P (next size u.moved u.tries u.failed a) → P t
    came P h = subst (OnFlow P) (sym e ∙ w) h

    pub step-going : Going size s → Going size t
    step-going g = came (Going size) (next-going size u.moved u.tries u.failed a (rw f at g) fits)

    pub step_less : left size t < left size s
    step_less = rw f (came (λ v. left size v < left size (Continue u)) (next-less size u.moved u.tries u.failed a fits))
