-- What the limits by number, 0 where a pollutant is not declared, say of the declared pollutants.
use Rattle.arithmetic.proofs.Basics.{ℕ, zero, suc, ◌≤◌, ◌<◌, arith, ◌≡◌, refl, sym, ◌∙◌, Bool, true, false, not, ◌&&◌, ◌||◌, cond, List, [], ◌∷◌, ◌++◌}
use Rattle.arithmetic.proofs.Basics.{eqb, eqb-true, eq-eqb, ne_eqb, or_same, or_swap, or_assoc, by-test, any-update}
use Rattle.rules.specs.Tools.{any}
use Rattle.rules.specs.Sheet.{Record, Pollutant, pollutants, more_pollutants, measurement, volume, speed, date, numbers, declares, gross}
use Rattle.rules.specs.Refusals.{particulate_limit_lem, particulates, bad_particulate_lem, bad_value_lem, bad_measurement_lem}
use Rattle.accepted.proofs.ByNumber.{limit_of_lem, InOrder, in-numbers}
use Rattle.pollutants.specs.declared.Each.{Each}
use Rattle.layout.specs.declared.Size.{Size}
use Rattle.layout.specs.declared.Size.TheVariants.{Twenty, TwentyEight}
use Rattle.layout.specs.Sizes.{width_is}
use Rattle.record.specs.Quantities.{quantity}
use Rattle.pollutants.specs.Each.{with_lem}
use Rattle.small_engines.specs.SmallEngines.{bad_particulate_by}
use Rattle.measurements.specs.Measurements.{bad_measurement_by, bad_behind_lem}
use Rattle.gross_emitters.specs.GrossEmitters.{exceeds, gross_by}

-- ---- limits by number

cond_same : (b : Bool) (x : ℕ) → cond b x x ≡ x
cond_same true x = refl
cond_same false x = refl

pub zero-quantity : (p : ℕ) → quantity (record { co = 0; hc = 0; nox = 0; pm = 0; fifth = 0; sixth = 0 }) p ≡ 0
unfolding quantity
zero-quantity p = simp cond_same

module _ (n x : ℕ) (l : 1 ≤ n) (u : n ≤ more_pollutants) (q : Each ℕ) where
  pub quantity-with : (p : ℕ) → quantity (with_lem q n x) p ≡ cond (eqb n p) x (quantity q p)
  unfolding quantity with_lem
  quantity-with zero = rw (ne_eqb n 0 (λ z. omega arith)) refl
  quantity-with (suc zero) = refl
  quantity-with (suc (suc zero)) = refl
  quantity-with (suc (suc (suc zero))) = refl
  quantity-with (suc (suc (suc (suc zero)))) = refl
  quantity-with (suc (suc (suc (suc (suc zero))))) = refl
  quantity-with (suc (suc (suc (suc (suc (suc zero)))))) = refl
  quantity-with (suc (suc (suc (suc (suc (suc (suc p))))))) =
      let m = suc (suc (suc (suc (suc (suc (suc p)))))) in
      let other : (k : ℕ) → k ≤ more_pollutants → eqb m k ≡ false = λ k b. ne_eqb m k (λ z. omega arith) in
      rw (other 1 (omega arith), other 2 (omega arith), other 3 (omega arith), other 4 (omega arith), other 5 (omega arith), other 6 (omega arith))
      (rw (ne_eqb n m (λ z. omega arith)) refl)

-- ---- pollutants whose numbers rise

-- one more behind the others
pub order-last : (w m : ℕ) (ps : List Pollutant) (c : Pollutant) → InOrder w m (ps ++ (c ∷ [])) → (m < c.number) × (c.number ≤ w)
order-last w m [] c h = (h.0, h.1)
order-last w m (a ∷ ps) c h = let k = order-last w a.number ps c h.5 in (omega arith, k.1)

pub limit-snoc : (w m : ℕ) (ps : List Pollutant) (c : Pollutant) → InOrder w m (ps ++ (c ∷ [])) → (p : ℕ)
    → limit_of_lem p (ps ++ (c ∷ [])) ≡ cond (eqb c.number p) c.limit (limit_of_lem p ps)
limit-snoc w m [] c h p = refl
limit-snoc w m (a ∷ ps) c h p =
    rw (limit-snoc w a.number ps c h.5 p)
    (by-test
    (λ t. cond (eqb a.number p) a.limit (cond t c.limit (limit_of_lem p ps)) ≡ cond t c.limit (cond (eqb a.number p) a.limit (limit_of_lem p ps)))
    (eqb c.number p)
    (λ e. let k = eqb-true c.number p e in rw (ne_eqb a.number p (λ z. omega (arith, order-last w a.number ps c h.5))) refl)
    (λ e. refl))

-- a number that is not above m is none of theirs
unlisted : (w m : ℕ) (ps : List Pollutant) → InOrder w m ps → (p : ℕ) → p ≤ m → limit_of_lem p ps ≡ 0
unlisted w m [] h p l = refl
unlisted w m (c ∷ ps) h p l = rw (ne_eqb c.number p (λ z. omega arith)) (unlisted w c.number ps h.5 p (omega arith))

declares-limit : (w m : ℕ) (ps : List Pollutant) → InOrder w m ps → (p : ℕ) → declares ps p ≡ not (eqb (limit_of_lem p ps) 0)
unfolding declares
declares-limit w m [] h p = refl
declares-limit w m (c ∷ ps) h p =
    by-test (λ t. t || declares ps p ≡ not (eqb (cond t c.limit (limit_of_lem p ps)) 0)) (eqb c.number p)
    (λ e. rw (ne_eqb c.limit 0 (λ z. omega arith)) refl) (λ e. declares-limit w c.number ps h.5 p)

-- a test of the limit of pollutant p
one-limit : (test : ℕ → Bool) (w m : ℕ) (ps : List Pollutant) → InOrder w m ps → (p : ℕ)
    → any (λ c. eqb c.number p && test c.limit) ps ≡ not (eqb (limit_of_lem p ps) 0) && test (limit_of_lem p ps)
one-limit test w m [] h p = refl
one-limit test w m (c ∷ ps) h p =
    rw (one-limit test w c.number ps h.5 p)
    (by-test
    (λ t. t && test c.limit || not (eqb (limit_of_lem p ps) 0) && test (limit_of_lem p ps) ≡ not (eqb (cond t c.limit (limit_of_lem p ps)) 0) && test (cond t c.limit (limit_of_lem p ps)))
    (eqb c.number p)
    (λ e.
    rw (unlisted w c.number ps h.5 p (omega (arith, eqb-true c.number p e)), ne_eqb c.limit 0 (λ z. omega arith)) (or_same (test c.limit)))
    (λ e. refl))

abbrev over : List Pollutant → Record → (p : ℕ) → Bool
over ps r p = exceeds (limit_of_lem p ps) (measurement r p)

gross-limit : (w m : ℕ) (ps : List Pollutant) → InOrder w m ps → (r : Record) → gross ps r ≡ any (over ps r) (numbers w)
unfolding gross
gross-limit w m [] h r = sym (none (numbers w))
  where
    none : (xs : List ℕ) → any (over [] r) xs ≡ false
    none [] = refl
    none (x ∷ xs) = none xs
gross-limit w m (c ∷ ps) h r =
    sym
    (any-update (over ps r) (over (c ∷ ps) r) c.number (rw (unlisted w c.number ps h.5 c.number (omega arith)) refl)
    (λ p e. rw (ne_eqb c.number p (λ z. e (sym z))) refl) (numbers w) (in-numbers w c.number (omega arith) h.1)
    ∙ or_swap (any (over ps r) (numbers w)) (over (c ∷ ps) r c.number)
    ∙ rw (eq-eqb c.number c.number refl, ne_eqb c.limit 0 (λ z. omega arith), ← gross-limit w c.number ps h.5 r) refl)

-- ---- the program's tests of the pollutants, four and two more

four-tests : (a b c d : Bool) → a || (b || (c || (d || false))) ≡ a || b || c || d || false
four-tests a b c d = simp or_assoc

six-tests : (a b c d e f : Bool) → a || (b || (c || (d || (e || (f || false))))) ≡ a || b || c || d || (e || f)
six-tests a b c d e f = simp (or_same, or_assoc)

module _ (ps : List Pollutant) (q : Each ℕ) (l : (p : ℕ) → quantity q p ≡ limit_of_lem p ps) (r : Record) where
  pub measurement-agrees : (z : Size) → InOrder (width_is z) 0 ps → bad_measurement_by q r || bad_behind_lem z q r ≡ bad_measurement_lem (width_is z) ps r
  unfolding bad_measurement_lem bad_measurement_by quantity
  measurement-agrees Twenty h =
      let d = declares-limit pollutants 0 ps h in
      sym (four-tests (bad_value_lem ps r 1) (bad_value_lem ps r 2) (bad_value_lem ps r 3) (bad_value_lem ps r 4) ∙ rw (d 1, d 2, d 3, d 4, l 1, l 2, l 3, l 4) refl)
  measurement-agrees TwentyEight h =
      let d = declares-limit more_pollutants 0 ps h in
      sym (six-tests (bad_value_lem ps r 1) (bad_value_lem ps r 2) (bad_value_lem ps r 3) (bad_value_lem ps r 4) (bad_value_lem ps r 5) (bad_value_lem ps r 6)
      ∙ rw (d 1, d 2, d 3, d 4, d 5, d 6, l 1, l 2, l 3, l 4, l 5, l 6) refl)

  pub particulate-agrees : (z : Size) → InOrder (width_is z) 0 ps → bad_particulate_by q.pm r ≡ bad_particulate_lem ps r
  unfolding bad_particulate_lem bad_particulate_by quantity
  particulate-agrees z h =
      let rule : ℕ = particulate_limit_lem (volume r) (speed r) (date r) in
      sym (one-limit (λ L. not (eqb L rule)) (width_is z) 0 ps h particulates ∙ rw (← l particulates) refl)

  pub gross-agrees : (z : Size) → InOrder (width_is z) 0 ps → gross_by z q r ≡ gross ps r
  unfolding gross_by quantity
  gross-agrees Twenty h =
      sym (gross-limit pollutants 0 ps h r ∙ four-tests (over ps r 1) (over ps r 2) (over ps r 3) (over ps r 4) ∙ rw (l 1, l 2, l 3, l 4) refl)
  gross-agrees TwentyEight h =
      sym (gross-limit more_pollutants 0 ps h r
      ∙ six-tests (over ps r 1) (over ps r 2) (over ps r 3) (over ps r 4) (over ps r 5) (over ps r 6) ∙ rw (l 1, l 2, l 3, l 4, l 5, l 6) refl)
