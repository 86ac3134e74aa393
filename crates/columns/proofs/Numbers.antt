-- What is kept by the pollutants' numbers, 1 first.
use Rattle.arithmetic.proofs.Basics.{ℕ, zero, suc, ◌≤◌, ◌<◌, arith, ◌≡◌, refl, ap, fun_ext, ◌∙◌, cond, List, [], ◌∷◌, ◌++◌, map, eqb, eqb-suc-suc, length}
use Rattle.arithmetic.proofs.Basics.{length-append, length-map, eqb-true, ne_eqb, by-test, map-append}
use Rattle.rules.specs.Sheet.{Pollutant, numbers}
use Rattle.columns.specs.Tally.{put, puts}

-- their numbers rise from above m
abbrev pub Rising : (m : ℕ) → List Pollutant → Type 0
Rising m [] = Unit {0}
Rising m (p ∷ ps) = (m < p.number) × Rising p.number ps

length-numbers : (w : ℕ) → length (numbers w) ≡ w
length-numbers zero = refl
length-numbers (suc w) = rw (length-append, length-numbers w) (omega arith)

module _ {A : Type 0} where
  pub map-put : {B : Type 0} (g : A → B) (k : ℕ) (x : A) (ys : List A) → map g (put k x ys) ≡ put k (g x) (map g ys)
  map-put g k x [] = refl
  map-put g zero x (y ∷ ys) = refl
  map-put g (suc zero) x (y ∷ ys) = refl
  map-put g (suc (suc k)) x (y ∷ ys) = rw (map-put g (suc k) x ys) refl

  put-snoc : (k : ℕ) (x : A) (ys : List A) (y : A) → put k x (ys ++ (y ∷ [])) ≡ put k x ys ++ (cond (eqb k (suc (length ys))) x y ∷ [])
  put-snoc zero x [] y = refl
  put-snoc (suc zero) x [] y = refl
  put-snoc (suc (suc k)) x [] y = rw (ne_eqb (suc (suc k)) 1 (λ e. omega arith)) refl
  put-snoc zero x (z ∷ zs) y = rw (ne_eqb 0 (suc (suc (length zs))) (λ e. omega arith)) refl
  put-snoc (suc zero) x (z ∷ zs) y = rw (ne_eqb 1 (suc (suc (length zs))) (λ e. omega arith)) refl
  put-snoc (suc (suc k)) x (z ∷ zs) y = rw (put-snoc (suc k) x zs y, eqb-suc-suc (suc k) (suc (length zs))) refl

  -- put in its place among the numbers 1 to w
  put-numbers : (k : ℕ) (x : A) (f : ℕ → A) (w : ℕ) → put k x (map f (numbers w)) ≡ map (λ n. cond (eqb k n) x (f n)) (numbers w)
  put-numbers k x f zero = refl
  put-numbers k x f (suc w) =
      rw (
        map-append f (numbers w) (suc w ∷ []),
        put-snoc k x (map f (numbers w)) (f (suc w)),
        put-numbers k x f w,
        length-map (numbers w) f,
        length-numbers w,
        map-append (λ n. cond (eqb k n) x (f n)) (numbers w) (suc w ∷ []),
      ) refl

  -- what f says of the pollutant n, d where it is undeclared
  abbrev pub value_or : (n : ℕ) → (d : A) → (f : Pollutant → A) → List Pollutant → A
  value_or n d f [] = d
  value_or n d f (p ∷ ps) = cond (eqb p.number n) (f p) (value_or n d f ps)

  undeclared : (n : ℕ) (d : A) (f : Pollutant → A) (k : ℕ) (ps : List Pollutant) → n ≤ k → Rising k ps → value_or n d f ps ≡ d
  undeclared n d f k [] l r = refl
  undeclared n d f k (p ∷ ps) l (s, r) = rw (ne_eqb p.number n (λ e. omega arith)) (undeclared n d f p.number ps (omega arith) r)

  pub puts-numbers : (f : Pollutant → A) (w : ℕ) (ps : List Pollutant) (g : ℕ → A) (k : ℕ) → Rising k ps
      → puts f ps (map g (numbers w)) ≡ map (λ n. value_or n (g n) f ps) (numbers w)
  puts-numbers f w [] g k r = refl
  puts-numbers f w (p ∷ ps) g k (s, r) =
      rw (put-numbers p.number (f p) g w)
      (puts-numbers f w ps (λ n. cond (eqb p.number n) (f p) (g n)) p.number r ∙ ap (λ (v : ℕ → A). map v (numbers w)) (fun_ext here))
    where
      here : (n : ℕ) → value_or n (cond (eqb p.number n) (f p) (g n)) f ps ≡ cond (eqb p.number n) (f p) (value_or n (g n) f ps)
      here n =
          by-test (λ t. value_or n (cond t (f p) (g n)) f ps ≡ cond t (f p) (value_or n (g n) f ps)) (eqb p.number n)
          (λ e. undeclared n (f p) f p.number ps (rw (eqb-true p.number n e) (omega arith)) r) (λ e. refl)
