-- How many records a sheet's bytes have, by the size that a caller names.
use Rattle.arithmetic.proofs.Basics.{ℕ, ◌/◌, ◌≡◌, refl, cond, List, [], length, by-test}
use Rattle.rules.specs.Sheet.{size, records}
use Rattle.rules.specs.Sizes.{width, unknown_size, records_sized}
use Rattle.accepted.proofs.Records.{length-records}
use Rattle.reading.specs.Steps.{whole_records_lem}

pub length_sized : (s : ℕ) (b : List ℕ) → length (records_sized s b) ≡ whole_records_lem s (length b)
unfolding records_sized whole_records_lem
length_sized s b =
    by-test (λ t. length (cond t [] (records (width s) b)) ≡ cond t 0 (length b / size (width s))) (unknown_size s) (λ e. refl) (λ e. length-records (width s) b)
