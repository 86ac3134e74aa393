-- The marks of the pollutants that the columns are gone through tell which are declared.
use Rattle.arithmetic.proofs.Basics.{ℕ, suc, ◌<◌, ◌≡◌, refl, ap, fun_ext, ◌∙◌, Bool, true, false, ◌||◌, cond, List, [], ◌∷◌, map, eqb, length, get_or, drop}
use Rattle.arithmetic.proofs.Basics.{drop-cons, drop-length, by-test}
use Rattle.rules.specs.Sheet.{Pollutant, numbers, declares}
use Rattle.columns.specs.Tally.{put, marked}
use Rattle.columns.proofs.Numbers.{value_or, puts-numbers, Rising}

pub marks-are : (w : ℕ) (ps : List Pollutant) → Rising 0 ps → marked ps (map (λ p. false) (numbers w)) ≡ map (declares ps) (numbers w)
unfolding marked declares
marks-are w ps r = puts-numbers (λ p. true) w ps (λ p. false) 0 r ∙ ap (λ (v : ℕ → Bool). map v (numbers w)) (fun_ext (λ n. one n ps))
  where
    one : (n : ℕ) (xs : List Pollutant) → value_or n false (λ p. true) xs ≡ declares xs n
    one n [] = refl
    one n (p ∷ xs) = rw (one n xs) (by-test (λ t. cond t true (declares xs n) ≡ t || declares xs n) (eqb p.number n) (λ e. refl) (λ e. refl))

-- ---- what a loop over the pollutants keeps

pub marked_next : (ps : List Pollutant) (d : Pollutant) (k : ℕ) (marks : List Bool) → k < length ps
    → marked (drop k ps) marks ≡ marked (drop (suc k) ps) (put (get_or ps k d).number true marks)
unfolding marked
marked_next ps d k marks l = rw (drop-cons ps k d l) refl

pub marked-end : (ps : List Pollutant) (marks : List Bool) → marked (drop (length ps) ps) marks ≡ marks
unfolding marked
marked-end ps marks = rw (drop-length ps) refl
