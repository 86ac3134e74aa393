-- What comes before the statistics of a row of an accepted sheet, by the causes of its vehicles alone: in plan 4 the gross emitters are those
-- with a cause.
use Rattle.arithmetic.proofs.Basics.{ℕ, ◌≡◌, refl, Bool, true, false, ◌&&◌, cond, List, [], ◌∷◌, ◌++◌, map, leb, ltb, eqb, length, take, drop, take-append-drop}
use Rattle.arithmetic.proofs.Basics.{and-never, any-those}
use Rattle.rules.specs.Tools.{any, those}
use Rattle.rules.specs.Sheet.{Record, Pollutant, cause, is_pending, gross}
use Rattle.rules.specs.Plans.{Plan, known_deviation_lem, unknown_deviation_lem, attributes, in_service_lem, corrected}
use Rattle.rules.specs.Series.{Before, early, equal_cause, finding_pending, referral, left_open, statistics, repeats, known, in_service_before, before_row}
use Rattle.accepted.proofs.Causes.{has_cause, Caused}
use Rattle.accepted.proofs.Sheets.{is_in_service}

-- ---- tests by gross emission and by cause agree

module _ (b : Bool) (ps : List Pollutant) where
  caused-parts : (xs ys : List Record) → Caused b ps (xs ++ ys) → Caused b ps xs × Caused b ps ys
  caused-parts [] ys c = (tt, c)
  caused-parts (x ∷ xs) ys (e, c) = let r = caused-parts xs ys c in ((e, r.0), r.1)

  pub caused-cut : (n : ℕ) (es : List Record) → Caused b ps es → Caused b ps (take n es) × Caused b ps (drop n es)
  caused-cut n es c = caused-parts (take n es) (drop n es) (rw (take-append-drop n es) c)

module _ (ps : List Pollutant) where
  those-gross : (es : List Record) → Caused true ps es → those (gross ps) es ≡ those has_cause es
  those-gross [] c = refl
  those-gross (e ∷ es) c = rw (c.0, those-gross es c.1) refl

  any-gross : (es : List Record) → Caused true ps es → any (gross ps) es ≡ any has_cause es
  any-gross es c = rw (any-those (gross ps) es, any-those has_cause es, those-gross es c) refl

  pub no-cause : (es : List Record) → Caused false ps es → those has_cause es ≡ []
  no-cause [] c = refl
  no-cause (e ∷ es) c = rw (← c.0, no-cause es c.1) refl

-- ---- what comes before the statistics of row n

abbrev pub pick : (early equal pending referral left : Bool) → Before
pick a b p c d =
    cond a early (cond b equal_cause (cond p finding_pending (cond c referral (cond d left_open statistics))))

-- by the causes of the first n vehicles
abbrev pub repeats_of : (first : List Record) → Bool
repeats_of first = repeats (known (map cause (those has_cause first)))

abbrev pub pending_of : (first : List Record) → Bool
pending_of first = any is_pending (map cause (those has_cause first))

abbrev pub referral_by : (n : ℕ) → (first : List Record) → Bool
referral_by n first = eqb n 15 && leb 2 (length (those has_cause first))

abbrev pub left_by : (n : ℕ) → (first : List Record) → Bool
left_by n first = eqb n 3 && any has_cause first

abbrev pub before_by : (n : ℕ) → (first : List Record) → Before
before_by n first = pick (ltb n 3) (repeats_of first) (pending_of first) (referral_by n first) (left_by n first)

module _ (ps : List Pollutant) (n : ℕ) (first : List Record) where
  -- in plans 1 to 3 and 5 there is no cause
  plain : Caused false ps first → cond (ltb n 3) early statistics ≡ before_by n first
  plain c = rw (any-those has_cause first, no-cause ps first c, and-never (eqb n 15), and-never (eqb n 3)) refl

  pub before-is : (plan : Plan) → Caused (is_in_service plan) ps first → before_row plan ps n first ≡ before_by n first
  unfolding before_row in_service_before
  before-is known_deviation_lem c = plain c
  before-is unknown_deviation_lem c = plain c
  before-is attributes c = plain c
  before-is in_service_lem c = rw (those-gross ps first c, any-gross ps first c) refl
  before-is corrected c = plain c
