-- The sizes that there are, and what a name says of an answer by the size.
use Rattle.arithmetic.proofs.Basics.{ℕ, ◌≤◌, arith, ◌≡◌, refl, sym, ◌∙◌, true, false, not, ◌||◌, cond, eqb, eqb-true, never, by-test}
use Rattle.rules.specs.Sheet.{pollutants, more_pollutants, size}
use Rattle.rules.specs.Sizes.{width, unknown_size, sized}
use Rattle.std.specs.Prelude.{Result, Ok, Err}
use Rattle.refusals.specs.declared.Reason.{Reason}
use Rattle.refusals.specs.declared.Reason.TheVariants as reason
use Rattle.layout.specs.declared.Size.{Size}
use Rattle.layout.specs.declared.Size.TheVariants.{Twenty, TwentyEight}
use Rattle.layout.specs.Sizes.{width_is, name_of}

pub width-range : (z : Size) → (pollutants ≤ width_is z) × (width_is z ≤ more_pollutants)
width-range Twenty = (omega arith, omega arith)
width-range TwentyEight = (omega arith, omega arith)

-- ---- what a caller's name says of an answer by the size

sized-is : {A : Type 0} (z : Size) (unknown : A) (known : (w : ℕ) → A) → sized (size (width_is z)) unknown known ≡ known (width_is z)
sized-is Twenty unknown known = refl
sized-is TwentyEight unknown known = refl

width_is_lem : (z : Size) → width (size (width_is z)) ≡ width_is z
width_is_lem Twenty = refl
width_is_lem TwentyEight = refl

named : (s : ℕ) {z : Size} → name_of s ≡ Ok z → s ≡ size (width_is z)
named s {z} =
    by-test (λ t. cond t (Ok Twenty) (cond (eqb s 28) (Ok TwentyEight) (Err reason.Size)) ≡ Ok z → s ≡ size (width_is z)) (eqb s 20)
    (λ e h. let q : Twenty ≡ z = cc in rw (← q) (eqb-true s 20 e))
    (λ e. by-test (λ t. cond t (Ok TwentyEight) (Err reason.Size) ≡ Ok z → s ≡ size (width_is z)) (eqb s 28)
    (λ f h. let q : TwentyEight ≡ z = cc in rw (← q) (eqb-true s 28 f)) (λ f h. let q : true ≡ false = cc in never q))

unnamed : (s : ℕ) {r : Reason} → name_of s ≡ Err r → (r ≡ reason.Size) × (unknown_size s ≡ true)
unnamed s {r} =
    by-test (λ t. cond t (Ok Twenty) (cond (eqb s 28) (Ok TwentyEight) (Err reason.Size)) ≡ Err r → (r ≡ reason.Size) × (not (t || eqb s 28) ≡ true)) (eqb s 20)
    (λ a h. let q : true ≡ false = cc in never q)
    (λ a. by-test (λ t. cond t (Ok TwentyEight) (Err reason.Size) ≡ Err r → (r ≡ reason.Size) × (not t ≡ true)) (eqb s 28)
    (λ f h. let q : true ≡ false = cc in never q) (λ f h. (cc, refl)))

module _ (s : ℕ) {n : Result Size Reason} (e : n ≡ name_of s) where
  module _ {r : Reason} (k : n ≡ Err r) where
    -- "30, size not 20 or 28"
    pub why-unknown : r ≡ reason.Size
    why-unknown = (unnamed s (sym e ∙ k)).0

    pub no_size : unknown_size s ≡ true
    no_size = (unnamed s (sym e ∙ k)).1

    pub unknown-size : {A : Type 0} (unknown : A) (known : (w : ℕ) → A) → unknown ≡ sized s unknown known
    unknown-size unknown known = rw no_size refl

  module _ {z : Size} (k : n ≡ Ok z) where
    pub size_is : s ≡ size (width_is z)
    size_is = named s (sym e ∙ k)

    pub known-size : {A : Type 0} (unknown : A) (known : (w : ℕ) → A) → known (width_is z) ≡ sized s unknown known
    known-size unknown known = rw size_is (sym (sized-is z unknown known))

    pub known-width : width_is z ≡ width s
    known-width = rw size_is (sym (width_is_lem z))
