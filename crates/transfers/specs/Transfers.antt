-- Bytes that calls of `read` or `write` move, one call after another: what each answer leads to.
use Rattle.std.specs.Prelude.{ℕ, zero, suc, ◌+◌, ◌≤◌, ◌<◌, Bool, true, false, cond, ◌≡◌, List, [], ◌∷◌, leb, take, slice_get, IsSome, Option, Some, None, Result, Ok, Err}
use Rattle.std.specs.IoError.{error_kind}
use Rattle.std.specs.declared.io.Error.{Error}
use Rattle.std.specs.declared.io.ErrorKind.{ErrorKind}
use Rattle.std.specs.declared.io.ErrorKind.TheVariants.{Interrupted, WouldBlock}
use Rattle.std.specs.declared.ops.ControlFlow.{ControlFlow}
use Rattle.std.specs.declared.ops.ControlFlow.TheVariants.{Continue, Break}
use Rattle.transfers.specs.declared.Transfer.{Transfer}
use Rattle.transfers.specs.declared.Transfer.TheVariants.{Ended, Full}
use Rattle.transfers.specs.declared.Underway.{Underway}

-- ---- one answer

-- how many bytes a call moved, or why it failed
abbrev pub Answer : Type 0
Answer = Result ℕ Error

-- whether there is a pause before a call is made again that failed so; None: it failed for good
abbrev pub pause_before : ErrorKind → Option Bool
pause_before Interrupted = Some false
pause_before WouldBlock = Some true
pause_before _ = None

-- ---- what it leads to

-- what a transfer came to, or that there is another call to make
abbrev pub Flow : Type 0
Flow = ControlFlow Transfer Underway

-- how many calls in a row may move nothing
abbrev pub patience : ℕ
patience = 1000

-- `moved` of `size` bytes are moved, and the last call that failed did so for this reason
abbrev pub further : (size moved : ℕ) → (failed : Option Error) → Flow
further size moved failed = cond (leb size moved) (Break (Full moved)) (Continue (record { moved = moved; tries = patience; pause = false; failed = failed }))

-- another try, while there are any
abbrev pub again : (moved tries : ℕ) → (pause : Bool) → Error → Result Underway Error
again moved zero pause e = Err e
again moved (suc tries) pause e = Ok (record { moved = moved; tries = tries; pause = pause; failed = Some e })

abbrev pub goes_on : Result Underway Error → Result Flow Error
goes_on (Ok u) = Ok (Continue u)
goes_on (Err e) = Err e

-- a call that failed is made again, where it may be, while there is patience
abbrev pub after_failure : (moved tries : ℕ) → Error → Option Bool → Result Flow Error
after_failure moved tries e (Some pause) = goes_on (again moved tries pause e)
after_failure moved tries e None = Err e

-- a call that moves no byte and does not fail has met the end
abbrev pub next : (size moved tries : ℕ) → (failed : Option Error) → Answer → Result Flow Error
next size moved tries failed (Ok zero) = Ok (Break (Ended moved failed))
next size moved tries failed (Ok (suc n)) = Ok (further size (moved + suc n) failed)
next size moved tries failed (Err e) = after_failure moved tries e (pause_before (error_kind e))

-- ---- ranges

-- behind the first `moved` of so many bytes
pub record Place (moved size : ℕ) : Type 0 where
  pub inside : moved ≤ size

-- a call moves no more bytes than there is room for
abbrev pub bytes_of : Answer → ℕ
bytes_of (Ok n) = n
bytes_of (Err e) = 0

pub record Room (size moved : ℕ) (a : Answer) : Type 0 where
  pub room : moved + bytes_of a ≤ size

-- a transfer of so many bytes that is over: at its end some are missing, or it has all of them
abbrev pub Over : Transfer → (size : ℕ) → Type 0
Over (Ended moved failed) size = moved < size
Over (Full moved) size = moved ≡ size

-- ---- a row of calls, whatever they answer

-- a transfer that is over or has failed stays as it is
abbrev pub stepped : (size : ℕ) → Result Flow Error → Answer → Result Flow Error
stepped size (Ok (Continue u)) a = next size u.moved u.tries u.failed a
stepped size (Ok (Break t)) a = Ok (Break t)
stepped size (Err e) a = Err e

unfoldable pub run : (size : ℕ) → Result Flow Error → List Answer → Result Flow Error
run size t [] = t
run size t (a ∷ more) = run size (stepped size t a) more

-- the bytes that they moved
abbrev pub total : List Answer → ℕ
total [] = 0
total (a ∷ more) = bytes_of a + total more

-- none of them failed for good
abbrev pub Sound : List Answer → Type 0
Sound [] = Unit {0}
Sound (Ok n ∷ more) = Sound more
Sound (Err e ∷ more) = IsSome (pause_before (error_kind e)) × Sound more

-- the first of them moved n bytes, behind those that were moved before, and the next met the end
pub record EndMet (before : ℕ) (answers : List Answer) (n : ℕ) : Type 0 where
  pub calls : ℕ
  pub brought : n ≡ before + total (take calls answers)
  pub sound : Sound (take calls answers)
  pub end : slice_get answers calls ≡ Some (Ok 0)

-- the first of them moved n bytes, behind those that were moved before, and these are all that were wanted
pub record AllMoved (size before : ℕ) (answers : List Answer) (n : ℕ) : Type 0 where
  pub calls : ℕ
  pub brought : n ≡ before + total (take calls answers)
  pub sound : Sound (take calls answers)
  pub enough : size ≤ n
