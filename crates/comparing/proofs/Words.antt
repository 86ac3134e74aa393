-- A record's numbers in two sheets: they lie in both, and their tests are those of the definition.
use Rattle.arithmetic.proofs.Basics.{ℕ, ◌+◌, ◌≤◌, add_assoc, arith, ◌≡◌, Bool, false, ◌||◌, List, or_same, or_assoc}
use Rattle.rules.specs.Tools.{four}
use Rattle.layout.specs.declared.Size.{Size}
use Rattle.layout.specs.declared.Size.TheVariants.{Twenty, TwentyEight}
use Rattle.layout.specs.Sizes.{width_is}
use Rattle.comparing.specs.Ranges.{BothRange}
use Rattle.comparing.specs.Records.{disagree, either_disagrees_lem, any_disagrees}

-- the first of bytes that lie in both
pub first_of : {i many low high : ℕ} → BothRange i many low high → (m : ℕ) → m ≤ many → BothRange i m low high
first_of r m h = record { in_low = omega (arith, r.in_low); in_high = omega (arith, r.in_high) }

four-tests : (a b c d : Bool) → a || b || (c || d) ≡ a || (b || (c || (d || false)))
four-tests a b c d = simp (or_same, or_assoc)

six-tests : (a b c d e f : Bool) → a || b || (c || d) || (e || f) ≡ a || (b || (c || (d || (e || (f || false)))))
six-tests a b c d e f = simp (or_same, or_assoc)

module _ (low high : List ℕ) (same : Bool) (i : ℕ) where
  abbrev at : (k : ℕ) → Bool
  at k = disagree same (four low (i + k)) (four high (i + k))

  abbrev either : (k : ℕ) → Bool
  either k = either_disagrees_lem low high same (i + k)

  module _ {z : Size} {a b : Bool} (ea : a ≡ either 4) (eb : b ≡ either 12) where
    pub four-disagree : z ≡ Twenty → a || b ≡ any_disagrees (width_is z) low high same i
    unfolding any_disagrees
    four-disagree e = rw (e, ea, eb, add_assoc i 4 4, add_assoc i 12 4) (four-tests (at 4) (at 8) (at 12) (at 16))

    pub six-disagree : z ≡ TwentyEight → {c : Bool} → c ≡ either 20 → a || b || c ≡ any_disagrees (width_is z) low high same i
    unfolding any_disagrees
    six-disagree e ec =
        rw (e, ea, eb, ec, add_assoc i 4 4, add_assoc i 12 4, add_assoc i 20 4) (six-tests (at 4) (at 8) (at 12) (at 16) (at 20) (at 24))
