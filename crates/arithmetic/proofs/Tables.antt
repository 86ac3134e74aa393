-- Two tables that agree as wholes, which antt computes, agree at each place.
-- Assumes nothing.
use mathlib.Core.Path.{◌≡◌, refl, ◌∙◌, sym, ap}
use mathlib.Core.List.{List, [], ◌∷◌, map}
use Prim.Native.Nat.{ℕ, zero, suc, ◌<◌}
use native.Mathlib.Nat.{le_of_suc-le-suc, not-suc-le-zero}
use lib.ListN.{length, get_or, length-map, get_or-map}

-- an entry that is there, whatever stands for those that are not
in_list : {A : Type 0} (xs : List A) (k : ℕ) → k < length xs → (a b : A) → get_or xs k a ≡ get_or xs k b
in_list [] k h a b = absurd (not-suc-le-zero h)
in_list (x ∷ xs) zero h a b = refl
in_list (x ∷ xs) (suc k) h a b = in_list xs k (le_of_suc-le-suc h) a b

-- an entry of the table that f makes
pub entry : {A C : Type 0} (f : A → C) (xs : List A) (k : ℕ) → k < length xs → (c : C) (a : A) → get_or (map f xs) k c ≡ f (get_or xs k a)
entry f xs k h c a = in_list (map f xs) k (rw (length-map xs f) h) c (f a) ∙ get_or-map f xs k a

-- f of one table is g of the other
pub column : {A B C : Type 0} (f : A → C) (g : B → C) (xs : List A) (ys : List B) → map f xs ≡ map g ys → (k : ℕ) → k < length xs → (a : A) (b : B) → f (get_or xs k a) ≡ g (get_or ys k b)
column {C = C} f g xs ys e k h a b =
    let l : length ys ≡ length xs = sym (length-map ys g) ∙ ap length (sym e) ∙ length-map xs f in
    sym (get_or-map f xs k a) ∙ ap (λ (l : List C). get_or l k (f a)) e ∙ entry g ys k (rw l h) (f a) b
