-- Where the fields of a record lie in its sheet.
use Rattle.arithmetic.proofs.Basics.{ℕ, ◌+◌, ◌*◌, ◌≤◌, arith, ◌≡◌, ◌∙◌, List, drop}
use Rattle.rules.specs.Tools.{four}
use Rattle.rules.specs.Sheet.{size, measurement}
use Rattle.accepted.specs.Sheets.{record_at_lem}
use Rattle.accepted.proofs.Records.{four-take, four-drop}

module _ (w : ℕ) (b : List ℕ) (k : ℕ) where
  pub measurement-place : (p : ℕ) → p ≤ w → measurement (record_at_lem w b k) p ≡ four b (size w * k + 4 * p)
  unfolding measurement
  measurement-place p h = four-take (size w) (4 * p) (drop (size w * k) b) (omega arith) ∙ four-drop (size w * k) (4 * p) b
