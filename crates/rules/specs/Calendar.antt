-- Document 02, F-1: "date not in the Gregorian calendar of years 1 to 9999". The calendar is taken back to year 1.
use Rattle.std.specs.Prelude.{ℕ, ◌-◌, ◌/◌, ◌%◌, Bool, not, ◌&&◌, ◌||◌, cond, List, [], ◌∷◌, eqb, get_or}
use Rattle.rules.specs.Tools.{within}

-- a year that 4 divides, but not one that 100 divides, unless 400 does
abbrev pub leap : (year : ℕ) → Bool
leap y = eqb (y % 4) 0 && (not (eqb (y % 100) 0) || eqb (y % 400) 0)

-- the days of January to December
unfoldable pub months : (year : ℕ) → List ℕ
months y = 31 ∷ cond (leap y) 29 28 ∷ 31 ∷ 30 ∷ 31 ∷ 30 ∷ 31 ∷ 31 ∷ 30 ∷ 31 ∷ 30 ∷ 31 ∷ []

-- how many days the month m has, 1 to 12
unfoldable pub days : (year m : ℕ) → ℕ
days y m = get_or (months y) (m - 1) 0

abbrev pub last_year : ℕ
last_year = 9999

abbrev pub in_calendar : (year month day : ℕ) → Bool
in_calendar y m k = within 1 last_year y && within 1 12 m && within 1 (days y m) k

-- "year × 10000 + month × 100 + day"
unfoldable pub is_day_lem : (date : ℕ) → Bool
is_day_lem n = in_calendar (n / 10000) (n / 100 % 100) (n % 100)
