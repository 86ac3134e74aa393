-- Each answer takes a transfer on with the bytes that its call moved, behind those before.
use Rattle.arithmetic.proofs.Basics.{ℕ, zero, suc, ◌+◌, ◌-◌, ◌≤◌, ◌<◌, ◌++◌, arith, ◌≡◌, refl, Bool, List, length, take, drop, length-take-le, take-append-le, take-append-add, take-length, length-drop}
use native.Mathlib.Nat.{add-zero}
use borrow.Rule.Slice.PartMut.{put_mid, post_of}
use Rattle.std.proofs.Math.Seq.{take-add}
use Rattle.std.proofs.lemmas.Bool.{false≢true}
use Rattle.std.proofs.lemmas.Slice.{take-put_mid_below}
use Rattle.std.specs.Prelude.{Option, Some, None, Result, Ok, Err, IsErr, IfOk, ⊤}
use Rattle.std.specs.Io.{ReadsAtMost}
use Rattle.std.specs.IoError.{error_kind}
use Rattle.std.specs.Io.KnownBytes.{Consumes, Appends, IsAtEnd, ReadConsumes, WriteAppends}
use Rattle.std.proofs.KnownBytes.{Consumes-trans, Consumes-kept, Appends-trans, Appends-kept}
use Rattle.std.specs.declared.io.Error.{Error}
use Rattle.std.specs.declared.ops.ControlFlow.TheVariants.{Continue, Break}
use Rattle.transfers.specs.declared.Transfer.{Transfer}
use Rattle.transfers.specs.declared.Underway.{Underway}
use Rattle.transfers.specs.Transfers.{Answer, Flow, further, after_failure, pause_before, next, Over}
use Rattle.transfers.specs.Bytes.{MovedOn, HasMoved}
use Rattle.transfers.proofs.Progress.{further-is}

-- ---- whatever is moved, M of so many bytes, and E at the end: by a transfer that is on its way or over, and by one that may have failed
module _ (M : ℕ → Type 0) (E : Type 0) where
  abbrev pub Moves : Flow → Type 0
  Moves (Continue u) = M u.moved
  Moves (Break t) = HasMoved M E (Ok t)

  abbrev pub MovesOrFails : Result Flow Error → Type 0
  MovesOrFails (Ok f) = Moves f
  MovesOrFails (Err e) = HasMoved M E (Err e)

  pub start-moves : (size : ℕ) → M 0 → Moves (further size 0 None)
  start-moves size h = further-is Moves size 0 None (λ g. h) (λ l. h)

  failure-moves : (moved tries : ℕ) (e : Error) (pause : Option Bool) → M moved → MovesOrFails (after_failure moved tries e pause)
  failure-moves moved tries e None h = (moved, h)
  failure-moves moved zero e (Some p) h = (moved, h)
  failure-moves moved (suc tries) e (Some p) h = h

  next-moves : (size moved tries : ℕ) (failed : Option Error) (a : Answer) → moved < size → MovedOn M E size moved a → MovesOrFails (next size moved tries failed a)
  next-moves size moved tries failed (Ok zero) l h = (rw add-zero at h.0, h.1 refl l)
  next-moves size moved tries failed (Ok (suc n)) l h = further-is Moves size (moved + suc n) failed (λ g. h.0) (λ m. h.0)
  next-moves size moved tries failed (Err e) l h = failure-moves moved tries e (pause_before (error_kind e)) h

  -- the answer a leads to r, where all n bytes are wanted
  pub step-moves : (size n : ℕ) (u : Underway) (a : Answer) {r : Result Flow Error} → size ≡ n → r ≡ next size u.moved u.tries u.failed a → u.moved < n → MovedOn M E n u.moved a
      → MovesOrFails r
  step-moves size n u a wanted e l h = rw (e, wanted) (next-moves n u.moved u.tries u.failed a l h)

  -- a transfer that failed has moved some
  pub failed-moves : (size : ℕ) (r : Result Transfer Error) → IsErr r → (some : ℕ) × M some → IfOk r (λ t. Over t size) × HasMoved M E r
  failed-moves size (Ok t) failed h = absurd (false≢true failed)
  failed-moves size (Err e) failed h = (tt, h)

-- ---- reading

-- what stands in the buffer after a read of the part behind: what stood there, and then what the part begins with
front : (moved k n : ℕ) (before part : List ℕ) → moved ≤ length before → n ≤ length part → take (moved + n) (put_mid moved k before part) ≡ take moved before ++ take n part
front moved k n before part fits few =
    let size : length (take moved before) ≡ moved = length-take-le moved before fits in
    rw (size, take-append-le n part (post_of moved k before) few) at (take-append-add (take moved before) (part ++ post_of moved k before) n)

-- what was given before, and then what the call gave
pub reads-on : (R B : Type 0) (old mid new : Option (List ℕ)) (size moved k : ℕ) (before part : List ℕ) (a : Answer)
    → moved ≤ length before → size ≡ moved + length part → ReadsAtMost a part → R × B × Consumes old mid (take moved before) → ReadConsumes mid new a part
    → MovedOn (λ n. R × B × Consumes old new (take n (put_mid moved k before part))) (IsAtEnd new) size moved a
reads-on R B old mid new size moved k before part (Ok n) fits sum few h r =
    ((h.0, h.1, rw (front moved k n before part fits few.0) (Consumes-trans old mid new _ _ h.2 r.0)), λ none l. r.1 none (omega (arith, sum)))
reads-on R B old mid new size moved k before part (Err e) fits sum few h r =
    (h.0, h.1, rw (take-put_mid_below moved k before part moved (omega arith) fits) (Consumes-kept old mid new _ h.2 r))

-- ---- writing

pub writes-on : (W B : Type 0) (old mid new : Option (List ℕ)) (size moved : ℕ) (bytes : List ℕ) (a : Answer)
    → W × B × Appends old mid (take moved bytes) → WriteAppends mid new a (take (length bytes - moved) (drop moved bytes))
    → MovedOn (λ n. W × B × Appends old new (take n bytes)) ⊤ size moved a
writes-on W B old mid new size moved bytes (Ok n) h w =
    let behind : take (length bytes - moved) (drop moved bytes) ≡ drop moved bytes = rw (length-drop moved bytes) at (take-length (drop moved bytes)) in
    ((h.0, h.1, rw (take-add moved n bytes) (Appends-trans old mid new _ _ h.2 (rw behind at w))), λ none l. tt)
writes-on W B old mid new size moved bytes (Err e) h w = (h.0, h.1, Appends-kept old mid new _ h.2 w)
