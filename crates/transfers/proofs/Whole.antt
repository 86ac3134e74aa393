-- Whatever a row of calls answers, a transfer is said to have met the end, or to have moved all, only where it has.
use Rattle.arithmetic.proofs.Basics.{ℕ, zero, suc, ◌+◌, arith, ◌≡◌, refl, subst, Bool, false, List, [], ◌∷◌, take}
use Rattle.std.specs.Prelude.{Option, Some, None, IsSome, Result, Ok, Err}
use Rattle.std.specs.IoError.{error_kind}
use Rattle.std.specs.declared.io.Error.{Error}
use Rattle.std.specs.declared.ops.ControlFlow.TheVariants.{Continue, Break}
use Rattle.transfers.proofs.Progress.{further-is}
use Rattle.transfers.specs.declared.Transfer.TheVariants.{Ended, Full}
use Rattle.transfers.specs.Transfers.{Answer, Flow, patience, further, after_failure, pause_before, stepped, run, bytes_of, Sound, EndMet, AllMoved}

-- what a transfer says of the answers that led to it, where so many bytes were moved before
abbrev Says : (size before : ℕ) → List Answer → Result Flow Error → Type 0
Says size before answers (Ok (Continue u)) = Unit {0}
Says size before answers (Ok (Break (Ended n failed))) = EndMet before answers n
Says size before answers (Ok (Break (Full n))) = AllMoved size before answers n
Says size before answers (Err e) = Unit {0}

stays : (size : ℕ) (t : Result Flow Error) → ((a : Answer) → stepped size t a ≡ t) → (more : List Answer) → run size t more ≡ t
unfolding run
stays size t h [] = refl
stays size t h (a ∷ more) = rw (h a) (stays size t h more)

-- ---- one answer more in front

-- it is sound, and the bytes that it moved come before the others'
module _ (size before after : ℕ) (a : Answer) (more : List Answer) (sums : after ≡ before + bytes_of a) (sound : (rest : List Answer) → Sound rest → Sound (a ∷ rest)) where
  in-front : (t : Result Flow Error) → Says size after more t → Says size before (a ∷ more) t
  in-front (Ok (Continue u)) h = tt
  in-front (Ok (Break (Ended n failed))) h = record { calls = suc h.calls; brought = omega (arith, h.brought, sums); sound = sound (take h.calls more) h.sound; end = h.end }
  in-front (Ok (Break (Full n))) h = record { calls = suc h.calls; brought = omega (arith, h.brought, sums); sound = sound (take h.calls more) h.sound; enough = h.enough }
  in-front (Err e) h = tt

-- ---- from a transfer that is open

abbrev on_way : (moved tries : ℕ) (pause : Bool) (failed : Option Error) → Result Flow Error
on_way moved tries pause failed = Ok (Continue (record { moved = moved; tries = tries; pause = pause; failed = failed }))

further-says : (size n : ℕ) (failed : Option Error) (more : List Answer) → Says size n more (run size (on_way n patience false failed) more) → Says size n more (run size (Ok (further size n failed)) more)
further-says size n failed more h =
    further-is (λ t. Says size n more (run size (Ok t) more)) size n failed
    (λ g. rw (stays size (Ok (Break (Full n))) (λ a. refl) more) (record { calls = 0; brought = omega arith; sound = tt; enough = g })) (λ l. h)

-- behind a call that failed, where whatever comes after it says so much
failed-says : (size before tries : ℕ) (e : Error) (more : List Answer) (pause : Option Bool) → (IsSome pause → IsSome (pause_before (error_kind e)))
    → ((fewer : ℕ) (p : Bool) → Says size before more (run size (on_way before fewer p (Some e)) more)) → Says size before (Err e ∷ more) (run size (after_failure before tries e pause) more)
failed-says size before tries e more None may h = rw (stays size (Err e) (λ a. refl) more) tt
failed-says size before zero e more (Some p) may h = rw (stays size (Err e) (λ a. refl) more) tt
failed-says size before (suc tries) e more (Some p) may h =
    in-front size before before (Err e) more (omega arith) (λ rest sound. (may refl, sound)) (run size (on_way before tries p (Some e)) more) (h tries p)

says : (size before tries : ℕ) (pause : Bool) (failed : Option Error) (answers : List Answer) → Says size before answers (run size (on_way before tries pause failed) answers)
unfolding run
says size before tries pause failed [] = tt
says size before tries pause failed (Ok zero ∷ more) =
    rw (stays size (Ok (Break (Ended before failed))) (λ a. refl) more) (record { calls = 0; brought = omega arith; sound = tt; end = refl })
says size before tries pause failed (Ok (suc n) ∷ more) =
    in-front size before (before + suc n) (Ok (suc n)) more refl (λ rest h. h) (run size (Ok (further size (before + suc n) failed)) more)
    (further-says size (before + suc n) failed more (says size (before + suc n) patience false failed more))
says size before tries pause failed (Err e ∷ more) =
    failed-says size before tries e more (pause_before (error_kind e)) (λ some. some) (λ fewer p. says size before fewer p (Some e) more)

-- ---- the theorems: of a transfer from its start, by whatever answers

start-says : (size : ℕ) (answers : List Answer) → Says size 0 answers (run size (Ok (further size 0 None)) answers)
start-says size answers = further-says size 0 None answers (says size 0 patience false None answers)

pub ended_is : (size n : ℕ) (failed : Option Error) (answers : List Answer) → run size (Ok (further size 0 None)) answers ≡ Ok (Break (Ended n failed)) → EndMet 0 answers n
ended_is size n failed answers e = subst (Says size 0 answers) e (start-says size answers)

pub full_is : (size n : ℕ) (answers : List Answer) → run size (Ok (further size 0 None)) answers ≡ Ok (Break (Full n)) → AllMoved size 0 answers n
full_is size n answers e = subst (Says size 0 answers) e (start-says size answers)
