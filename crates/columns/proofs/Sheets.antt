-- An accepted sheet declares a pollutant, and its pollutants' numbers rise: so its answer is the tally of its columns.
use Rattle.arithmetic.proofs.Basics.{ℕ, ◌≡◌, false, List, [], ◌∷◌, map}
use Rattle.rules.specs.Sheet.{Pollutant, numbers, records, declares}
use Rattle.rules.specs.Plans.{Plan}
use Rattle.rules.specs.Series.{judge_records}
use Rattle.accepted.specs.Sheets.{pollutants_in, AcceptedSheet}
use Rattle.accepted.proofs.ByNumber.{InOrder}
use Rattle.accepted.proofs.Sheets.{clean, order, some-record, some-declared}
use Rattle.columns.specs.Tally.{judge_by_tally, marked}
use Rattle.columns.proofs.Numbers.{Rising}
use Rattle.columns.proofs.ByColumns.{by-columns}
use Rattle.columns.proofs.Marks.{marks-are}

rising : (w m : ℕ) (ps : List Pollutant) → InOrder w m ps → Rising m ps
rising w m [] h = tt
rising w m (p ∷ ps) h = (h.0, rising w p.number ps h.5)

module _ {w : ℕ} {b : List ℕ} {plan : Plan} {start : ℕ} (s : AcceptedSheet w b plan start) where
  sheet-rising : Rising 0 (pollutants_in w b)
  sheet-rising = rising w 0 (pollutants_in w b) (order s)

  -- with so many columns as one likes, also more than the records have room for
  module _ (columns : ℕ) where
    pub sheet-by-tally : (q : ℕ) → judge_records columns q (records w b) ≡ judge_by_tally columns q (records w b)
    sheet-by-tally q = by-columns columns q (records w b) (some-declared w (records w b) (some-record s) (clean s)) sheet-rising

    pub declared-marks : marked (pollutants_in w b) (map (λ p. false) (numbers columns)) ≡ map (declares (pollutants_in w b)) (numbers columns)
    declared-marks = marks-are columns (pollutants_in w b) sheet-rising
