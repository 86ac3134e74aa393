-- The program's answer to the check: what an accepted sheet says, or its refusal as document 01 has it.
use Rattle.std.specs.Prelude.{Result, Ok, Err, ℕ, suc, ◌*◌, ◌≤◌, ◌≡◌, cond, List, [], ◌∷◌, ◌++◌, eqb, length}
use Rattle.rules.specs.Sheet.{Record, size, most, records}
use Rattle.rules.specs.Refusals.{Check, accepted, refused, bad_length_lem, check_from, check}
use Rattle.rules.specs.Sizes.{sized}
use Rattle.refusals.specs.declared.Reason.{Reason}
use Rattle.refusals.specs.declared.Reason.TheVariants as reason
use Rattle.refusals.specs.Numbers.{number_is}
use Rattle.layout.specs.declared.Size.{Size}
use Rattle.layout.specs.Sizes.{width_is}
use Rattle.summary.specs.declared.Summary.{Summary}
use Rattle.summary.specs.State.{nothing, summary_with}
use Rattle.faults.specs.Faults.{fault_by}
use Rattle.checking.specs.declared.Refusal.{Refusal}

-- "A refusal that names no record .. returns record 0."
abbrev pub refusal_of : Reason → Refusal
refusal_of r = record { number = number_is r; place = 0 }

-- "1, no bytes, a length not a multiple of 20, or over"
abbrev pub length_checked : (w n : ℕ) → Result (Unit {0}) Reason
length_checked w n = cond (bad_length_lem w n) (Err reason.Length) (Ok (tt {0}))

-- what the records rs say after those of which s tells
unfoldable pub summary_from : Summary → (rs : List Record) → Summary
summary_from s [] = s
summary_from s (r ∷ rs) = summary_from (summary_with s r) rs

abbrev pub summary : List Record → Summary
summary rs = summary_from nothing rs

abbrev pub checked_by : Check → (said : Summary) → Result Summary Refusal
checked_by accepted s = Ok s
checked_by (refused number place) s = Err (record { number = number; place = place })

-- the check of bytes of w pollutants
abbrev pub checked_at : (w : ℕ) → List ℕ → Result Summary Refusal
checked_at w b = checked_by (check w b) (summary (records w b))

unfoldable pub checked_of : Size → List ℕ → Result Summary Refusal
checked_of z b = checked_at (width_is z) b

-- "30, size not 20 or 28, before every other"
unfoldable pub checked_sized : (s : ℕ) → List ℕ → Result Summary Refusal
checked_sized s b = sized s (Err (record { number = 30; place = 0 })) (λ w. checked_at w b)

-- the refusal in the check's answer; there is none in an accepted sheet's
abbrev pub refusal_in : Result Summary Refusal → Refusal
refusal_in (Ok s) = record { number = 0; place = 0 }
refusal_in (Err r) = r

-- a sheet that the check accepts, and what it says
pub record Valid (z : Size) (b : List ℕ) (s : Summary) : Type 0 where
  pub accepts : check (width_is z) b ≡ accepted
  pub says : s ≡ summary (records (width_is z) b)

-- the check of a sheet that bytes are added to: one with no bytes says nothing
unfoldable pub so_far : Size → List ℕ → Result Summary Refusal
so_far z b = cond (eqb (length b) 0) (Ok nothing) (checked_of z b)

-- the sheet's own refusal, or else the answer for the whole
abbrev pub joined_by : (sheet whole : Result Summary Refusal) → Result Summary Refusal
joined_by (Ok s) whole = whole
joined_by (Err r) whole = Err r

unfoldable pub joined_of : Size → (b more : List ℕ) → Result Summary Refusal
joined_of z b more = joined_by (so_far z b) (checked_of z (b ++ more))

-- the answer for the records rs, the first of which is record k, after those of which s tells
unfoldable pub checked_from : Size → Summary → (k : ℕ) → (rs : List Record) → Result Summary Refusal
checked_from z s k [] = Ok s
checked_from z s k (r ∷ rs) =
    cond (eqb (fault_by z s r) 0) (checked_from z (summary_with s r) (suc k) rs) (Err (record { number = fault_by z s r; place = k }))

-- n bytes of records after k others, in which there is no fault and of which s tells: no more than a sheet has
pub record AfterRanges (z : Size) (s : Summary) (k n : ℕ) : Type 0 where
  pub before : List Record
  pub accepts : check_from (width_is z) [] before ≡ accepted
  pub says : s ≡ summary before
  pub many : length before ≡ k
  pub place : k ≤ most (width_is z)
  pub length : n ≤ most (width_is z) * size (width_is z)
