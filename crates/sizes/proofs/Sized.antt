-- F-10, "Callers name the size": by the size 20 an operation is that of four pollutants, by 28 that of six, and no other size is known.
-- The operations of rules/specs/Sizes are `sized`, each with its own answer for an unknown size.
use Rattle.arithmetic.proofs.Basics.{ℕ, ◌≡◌, refl, ne_eqb}
use Rattle.rules.specs.Sheet.{pollutants, more_pollutants, size}
use Rattle.rules.specs.Sizes.{sized}

module _ {A : Type 0} (unknown : A) (known : ℕ → A) where
  pub sized-four : sized (size pollutants) unknown known ≡ known pollutants
  sized-four = refl

  pub sized-six : sized (size more_pollutants) unknown known ≡ known more_pollutants
  sized-six = refl

  -- "30, size not 20 or 28, before every other"
  pub sized-unknown : (s : ℕ) → (s ≡ size pollutants → ⊥) → (s ≡ size more_pollutants → ⊥) → sized s unknown known ≡ unknown
  sized-unknown s n m = rw (ne_eqb s (size pollutants) n, ne_eqb s (size more_pollutants) m) refl
