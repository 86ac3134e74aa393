-- The declared pollutants of an accepted sheet by their number, 1 to w, where the definitions go through the list of those declared.
use Rattle.arithmetic.proofs.Basics.{ℕ, zero, suc, ◌≤◌, ◌<◌, arith, ◌≡◌, refl, ap, ◌∙◌, true, false, not, ◌||◌, cond, List, [], ◌∷◌, ◌++◌, map, append-nil, leb, eqb}
use Rattle.arithmetic.proofs.Basics.{eqb-true, eqb-false, not-false, leb-false, in-range, or-false, or-true, by-test, any_snoc, map-append}
use Rattle.rules.specs.Tools.{any, within}
use Rattle.rules.specs.Logarithm.{greatest}
use Rattle.rules.specs.Sheet.{Record, Pollutant, numbers, pollutant_kind, kind, number, plan, limit, deviation, of_kind, pollutant, declared}
use Rattle.rules.specs.Refusals.{newest, bad_number, bad_limit, bad_deviation, greatest_deviation}
use Rattle.accepted.proofs.Faultless.{Clean, faultless, of_kind-append}

-- ---- what the pollutants of an accepted sheet are like: their numbers rise from above m to w, and their limits and deviations are in range

abbrev pub InOrder : (w m : ℕ) → List Pollutant → Type 0
InOrder w m [] = Unit {0}
InOrder w m (c ∷ ps) = (m < c.number) × (c.number ≤ w) × (1 ≤ c.limit) × (c.limit ≤ greatest) × (c.deviation ≤ greatest_deviation) × InOrder w c.number ps

-- the pollutants of joined records, and with one record more
pub declared-join : (rs ts : List Record) → declared (rs ++ ts) ≡ declared rs ++ declared ts
unfolding declared
declared-join rs ts =
    ap (map pollutant) (of_kind-append pollutant_kind rs ts) ∙ map-append pollutant (of_kind pollutant_kind rs) (of_kind pollutant_kind ts)

pub declared-one : (before : List Record) (r : Record) → eqb (kind r) pollutant_kind ≡ true → declared (before ++ (r ∷ [])) ≡ declared before ++ (pollutant r ∷ [])
unfolding declared of_kind
declared-one before r e = rw (declared-join before (r ∷ []), e) refl

pub declared-other : (before : List Record) (r : Record) → eqb (kind r) pollutant_kind ≡ false → declared (before ++ (r ∷ [])) ≡ declared before
unfolding declared of_kind
declared-other before r e = rw (declared-join before (r ∷ []), e, append-nil) refl

pub newest-snoc : (ps : List Pollutant) (c : Pollutant) → newest (ps ++ (c ∷ [])) ≡ c.number
newest-snoc [] c = refl
newest-snoc (o ∷ []) c = refl
newest-snoc (o ∷ e ∷ ps) c = newest-snoc (e ∷ ps) c

deviation-fine : (r : Record) → bad_deviation r ≡ false → deviation r ≤ greatest_deviation
unfolding bad_deviation
deviation-fine r e =
    by-test (λ t. cond t (not (within 1 greatest_deviation (deviation r))) (not (eqb (deviation r) 0)) ≡ false → deviation r ≤ greatest_deviation)
    (eqb (plan r) 1) (λ q f. (in-range 1 greatest_deviation (deviation r) f).1)
    (λ q f. let z = eqb-true (deviation r) 0 (not-false _ f) in omega arith) e

pub in_order : (w : ℕ) (before rs : List Record) → Clean w before rs → InOrder w (newest (declared before)) (declared rs)
unfolding declared of_kind pollutant bad_number bad_limit
in_order w before [] c = tt
in_order w before (r ∷ rs) c =
    let f = faultless w before r c.0 in
    let rest = in_order w (before ++ (r ∷ [])) rs c.1 in
    by-test (λ t. InOrder w (newest (declared before)) (map pollutant (cond t (r ∷ of_kind pollutant_kind rs) (of_kind pollutant_kind rs))))
    (eqb (kind r) pollutant_kind)
    (λ e.
    let n = or-false (not (within 1 w (number r))) (leb (number r) (newest (declared before))) (f.numbered e) in
    let l = in-range 1 greatest (limit r) (f.limited e) in
    (leb-false _ _ n.1, (in-range 1 w (number r) n.0).1, l.0, l.1, deviation-fine r (f.deviating e), rw (declared-one before r e, newest-snoc (declared before) (pollutant r)) at rest))
    (λ e. rw (declared-other before r e) at rest)

-- ---- by number

-- the limit of pollutant p, 0 where it is not declared
abbrev pub limit_of_lem : (p : ℕ) → List Pollutant → ℕ
limit_of_lem p [] = 0
limit_of_lem p (c ∷ ps) = cond (eqb c.number p) c.limit (limit_of_lem p ps)

pub limit-most : (w m : ℕ) (ps : List Pollutant) → InOrder w m ps → (p : ℕ) → limit_of_lem p ps ≤ greatest
limit-most w m [] h p = omega arith
limit-most w m (c ∷ ps) h p =
    by-test (λ t. cond t c.limit (limit_of_lem p ps) ≤ greatest) (eqb c.number p) (λ e. h.3) (λ e. limit-most w c.number ps h.5 p)

-- the numbers 1 to w are among those of the list
pub in-numbers : (w n : ℕ) → 1 ≤ n → n ≤ w → any (λ x. eqb x n) (numbers w) ≡ true
in-numbers zero n l u = absurd (omega arith)
in-numbers (suc w) n l u =
    rw (any_snoc (λ x. eqb x n) (numbers w) (suc w))
    (by-test (λ t. any (λ x. eqb x n) (numbers w) || t ≡ true) (eqb (suc w) n)
    (λ e. or-true (any (λ x. eqb x n) (numbers w)))
    (λ e. let o : suc w ≡ n → ⊥ = eqb-false (suc w) n e in rw (in-numbers w n l (omega arith)) refl))
