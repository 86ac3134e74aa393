-- A row of plan 2, 4 or 5 by the comparisons that the program makes.
use Rattle.arithmetic.proofs.Basics.{◌≡◌, refl, sym, ◌∙◌, Bool, true, false, not, ◌&&◌, ◌||◌, cond, ⊎_elim, ℕ, zero, suc, ◌+◌, ◌-◌, ◌*◌, ◌≤◌, ◌<◌, arith, mul-le-mul, leb, ltb, ℤ, pos}
use Rattle.arithmetic.proofs.Basics.{◌-ℤ◌, le-leb, lt-leb, le-ltb, ltb-true, ltb-false, not-true, or-true, or_same, and-true, never, by-test, lt-or-ge, nat_abs, lt_z}
use Rattle.rules.specs.Plans.{Row, pass, fail, undecided, decide, root_passes, root_fails}
use Rattle.tables.specs.Tables.{RootNumbers}
use Rattle.rows.proofs.RootTests.{negative-low, negative-high, most-low, most-high, least-high, least-low}

-- of two numbers that are at most m, so is the one that is chosen
pub chosen-most : {r m : ℕ} (t : Bool) (x y : ℕ) → r ≡ cond t x y → x ≤ m → y ≤ m → r ≤ m
chosen-most true x y e h k = omega arith
chosen-most false x y e h k = omega arith

-- x²W above 0 is above 0 for every other number too
other-line : (a b w : ℕ) → 1 ≤ b → 0 < a * a * w → 0 < b * b * w
other-line a b zero h l = absurd (omega arith)
other-line a b (suc w) h l = omega (arith, mul-le-mul h h)

-- k is D without its sign
module _ {last : Bool} {A B : ℤ} (numbers : RootNumbers last A B) (added taken w k : ℕ) (apart : k ≡ (added - taken) + (taken - added)) where
  abbrev D : ℤ
  D = pos added -ℤ pos taken

  abbrev pub square : ℕ
  square = 100000 * k * (100000 * k)

  abbrev pub a : ℕ
  a = nat_abs A

  abbrev b : ℕ
  b = nat_abs B

  abbrev passes : Bool
  passes = root_passes A D (pos w)

  abbrev fails : Bool
  fails = root_fails B D (pos w)

  abbrev decided : Row
  decided = decide passes last fails

  fails_by_lem : taken < added → fails ≡ leb (b * b * w) square
  fails_by_lem l = rw (← numbers.B-is) (sym (least-high k w added taken b (omega arith)))

  -- where D is 0 and the row doesn't pass, W is above 0, and so is B²W
  not-failed : added ≤ taken → 1 ≤ b → square < a * a * w → fails ≡ false
  not-failed l p e =
      ⊎_elim (λ lt. rw (← numbers.B-is) (least-low k w added taken b (omega arith) (omega arith)))
      (λ ge.
      let z : k ≡ 0 = omega arith in
      let s : square ≡ 0 = rw z in
      rw (← numbers.B-is)
      (sym (least-high k w added taken b (omega arith)) ∙ lt-leb (b * b * w) square (omega (arith, s, other-line a b w p (omega (arith, s))))))
      (lt-or-ge added taken)

  -- ---- "for A ≥ 0, P ≤ 0 or P² ≤ A²W"

  abbrev pub is_within_lem : Bool
  is_within_lem = not (lt_z A (pos 0)) && (not (ltb taken added) || not (ltb (a * a * w) square))

  passes-within : lt_z A (pos 0) ≡ false → passes ≡ not (ltb taken added) || not (ltb (a * a * w) square)
  passes-within s =
      by-test (λ t. passes ≡ not t || not (ltb (a * a * w) square)) (ltb taken added)
      (λ t. sym (most-high k w added taken A s (omega (arith, ltb-true taken added t)) (omega (arith, ltb-true taken added t))))
      (λ t. most-low k w added taken A s (omega (arith, ltb-false taken added t)))

  pub within : is_within_lem ≡ true → pass ≡ decided
  unfolding decide
  within e =
      let f = and-true (not (lt_z A (pos 0))) (not (ltb taken added) || not (ltb (a * a * w) square)) e in
      rw (passes-within (not-true (lt_z A (pos 0)) f.0), f.1)

  -- ---- what is not within passes with A below 0 alone, or fails, or stays open: by one comparison, with the number x that D's sign chooses

  not-passed : is_within_lem ≡ false → taken < added → passes ≡ false
  not-passed e l =
      by-test (λ s. not s && (not (ltb taken added) || not (ltb (a * a * w) square)) ≡ false → passes ≡ false) (lt_z A (pos 0))
      (λ s z. negative-high k w added taken A s (omega arith) (omega arith)) (λ s z. passes-within s ∙ z) e

  below : is_within_lem ≡ false → added ≤ taken → lt_z A (pos 0) ≡ true
  below e l =
      by-test (λ s. not s && (not (ltb taken added) || not (ltb (a * a * w) square)) ≡ false → s ≡ true) (lt_z A (pos 0))
      (λ s z. refl) (λ s z. let y : true ≡ false = rw (le-ltb taken added l) at z in never y) e

  module _ (left : is_within_lem ≡ false) {x : ℕ} (chosen : x ≡ cond (ltb taken added) b a) where
    passes-by : added ≤ taken → passes ≡ leb (a * a * w) square
    passes-by l = sym (negative-low k w added taken A (below left l) (omega arith))

    pub reached : (over : Bool) → ltb taken added ≡ over → x * x * w ≤ square → cond over fail pass ≡ decided
    unfolding decide
    reached true o l =
        let t = ltb-true taken added o in
        let e : x ≡ b = rw o at chosen in
        rw (not-passed left t, fails_by_lem t, le-leb (b * b * w) square (rw e at l), or-true last)
    reached false o l =
        let t = ltb-false taken added o in
        let e : x ≡ a = rw o at chosen in
        rw (passes-by t, le-leb (a * a * w) square (rw e at l))

    pub missed : (over end : Bool) → ltb taken added ≡ over → last ≡ end → square < x * x * w → cond end fail undecided ≡ decided
    unfolding decide
    missed true end o f l =
        let t = ltb-true taken added o in
        let e : x ≡ b = rw o at chosen in
        rw (not-passed left t, fails_by_lem t, lt-leb (b * b * w) square (rw e at l), or_same last, f)
    missed false true o f l =
        let t = ltb-false taken added o in
        let e : x ≡ a = rw o at chosen in
        rw (passes-by t, lt-leb (a * a * w) square (rw e at l), f)
    missed false false o f l =
        let t = ltb-false taken added o in
        let e : x ≡ a = rw o at chosen in
        rw (passes-by t, lt-leb (a * a * w) square (rw e at l), f, not-failed t (numbers.B-least f) (rw e at l))
