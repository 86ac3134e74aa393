-- What may be judged of an input.
use Rattle.std.specs.Prelude.{ℕ, ◌<◌, ◌≡◌}
use Rattle.rules.specs.Sheet.{longest}
use Rattle.transfers.specs.declared.Transfer.{Transfer}
use Rattle.transfers.specs.declared.Transfer.TheVariants.{Ended, Full}

-- n bytes are the whole input, to its end, or more of it than the longest sheet has
abbrev pub Whole : Transfer → (n : ℕ) → Type 0
Whole (Ended moved failed) n = n ≡ moved
Whole (Full moved) n = (n ≡ moved) × (longest < n)
