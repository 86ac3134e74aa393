-- The columns one after the other, each to the least failing row so far: what their tally keeps.
use Rattle.arithmetic.proofs.Basics.{ℕ, suc, ◌≤◌, ◌<◌, arith, ◌≡◌, refl, sym, ap, ◌∙◌, Bool, true, false, ◌&&◌, ◌||◌, cond, List, [], ◌∷◌, map, leb, ltb}
use Rattle.arithmetic.proofs.Basics.{length, get_or, drop, drop-cons, drop-length, ltb-true, ltb-false, leb-true, leb-false, never, or-false, and-true, by-test}
use Rattle.rules.specs.Sheet.{Pollutant}
use Rattle.rules.specs.Series.{Decision, is_open, passed_at, failed_at, has_failed, has_passed}
use Rattle.columns.specs.Columns.{up_to, some_failed, all_passed, columns_at}
use Rattle.columns.specs.Tally.{Tally, put, puts, counted, tally}
use Rattle.columns.proofs.Cut.{at, Column, said}
use Rattle.columns.proofs.Numbers.{map-put}

-- ---- one column more

counted-most : (k : ℕ) (d : Decision) (t : Tally) → at d ≤ t.rows → (counted k d t).rows ≤ t.rows
unfolding counted
counted-most k is_open t l = omega arith
counted-most k (passed_at n) t l = omega arith
counted-most k (failed_at n) t l = l

counted-decisions : (k : ℕ) (d : Decision) (t : Tally) → (counted k d t).decisions ≡ put k d t.decisions
unfolding counted
counted-decisions k is_open t = refl
counted-decisions k (passed_at n) t = refl
counted-decisions k (failed_at n) t = refl

-- no column fails to row m, and one in the next: one of those left, or one that the tally has
pub record Fails (m : ℕ) (left : Bool) (t : Tally) : Type 0 where
  pub later : suc m ≤ t.rows
  pub here : left ≡ false → (t.rows ≡ suc m) × (t.failed ≡ true)

fails-next : (m k : ℕ) (d : Decision) (t : Tally) (left : Bool) → at d ≤ t.rows → has_failed d && leb (at d) m ≡ false
    → Fails m (has_failed d && leb (at d) (suc m) || left) t → Fails m left (counted k d t)
unfolding counted
fails-next m k is_open t left l e u = record { later = u.later; here = u.here }
fails-next m k (passed_at n) t left l e u = record { later = u.later; here = u.here }
fails-next m k (failed_at n) t left l e u = record { later = leb-false n m e; here = λ z. (first z u.here, refl) }
  where
    first : left ≡ false → (leb n (suc m) || left ≡ false → (t.rows ≡ suc m) × (t.failed ≡ true)) → n ≡ suc m
    first z =
        by-test (λ b. (b || left ≡ false → (t.rows ≡ suc m) × (t.failed ≡ true)) → n ≡ suc m) (leb n (suc m))
        (λ f i. omega (arith, leb-true n (suc m) f, leb-false n m e)) (λ f i. omega (arith, (i z).0, leb-false n m e))

-- all columns pass to row m + 1, and not all to row m: one of those left does not, or one that the tally has
pub record Passes (n m : ℕ) (left : Bool) (t : Tally) : Type 0 where
  pub rows : t.rows ≡ n
  pub failed : t.failed ≡ false
  pub waits : t.waits ≡ false
  pub most : t.latest ≤ suc m
  pub here : left ≡ true → t.latest ≡ suc m

passes-next : (n m k : ℕ) (d : Decision) (t : Tally) (left : Bool) → has_passed d ≡ true → leb (at d) (suc m) ≡ true
    → Passes n m (has_passed d && leb (at d) m && left) t → Passes n m left (counted k d t)
unfolding counted
passes-next n m k is_open t left e l u = never (sym e)
passes-next n m k (failed_at j) t left e l u = never (sym e)
passes-next n m k (passed_at j) t left e l u =
    record {
      rows = u.rows;
      failed = u.failed;
      waits = u.waits;
      most = higher.2;
      here = λ z. by-test (λ b. (b && left ≡ true → t.latest ≡ suc m) → cond (ltb t.latest j) j t.latest ≡ suc m) (leb j m)
          (λ f i. omega (arith, i z, higher.1, higher.2)) (λ f i. omega (arith, leb-false j m f, higher.0, higher.2)) u.here;
    }
  where
    Higher : ℕ → Type 0
    Higher x = (j ≤ x) × (t.latest ≤ x) × (x ≤ suc m)

    higher : Higher (cond (ltb t.latest j) j t.latest)
    higher =
        by-test (λ b. Higher (cond b j t.latest)) (ltb t.latest j)
        (λ f. (omega arith, omega (arith, ltb-true t.latest j f), leb-true j (suc m) l)) (λ f. (ltb-false t.latest j f, omega arith, u.most))

-- no column fails, and one is open: one of those left, or one that the tally has
pub record Rests (n : ℕ) (left : Bool) (t : Tally) : Type 0 where
  pub rows : t.rows ≡ n
  pub failed : t.failed ≡ false
  pub waits : left ≡ true → t.waits ≡ true

rests-next : (n k : ℕ) (d : Decision) (t : Tally) (left : Bool) → has_failed d ≡ false → Rests n (has_passed d && left) t → Rests n left (counted k d t)
unfolding counted
rests-next n k is_open t left e u = record { rows = u.rows; failed = u.failed; waits = λ z. refl }
rests-next n k (passed_at j) t left e u = record { rows = u.rows; failed = u.failed; waits = u.waits }
rests-next n k (failed_at j) t left e u = never e

-- ---- all columns

module _ (c : Pollutant → ℕ → Decision) (h : (p : Pollutant) → Column (c p)) where
  -- the tally with the column of p, to the rows that count
  abbrev pub with : Pollutant → Tally → Tally
  with p t = counted p.number (c p t.rows) t

  pub with-most : (p : Pollutant) (t : Tally) → (with p t).rows ≤ t.rows
  with-most p t = counted-most p.number (c p t.rows) t ((h p).within t.rows)

  tally-most : (ps : List Pollutant) (t : Tally) → (tally c ps t).rows ≤ t.rows
  unfolding tally
  tally-most [] t = omega arith
  tally-most (p ∷ ps) t = omega (arith, tally-most ps (with p t), with-most p t)

  pub tally-fails : (m : ℕ) (ps : List Pollutant) (t : Tally) → some_failed (columns_at c m ps) ≡ false
      → Fails m (some_failed (columns_at c (suc m) ps)) t → Fails m false (tally c ps t)
  unfolding tally
  tally-fails m [] t e u = u
  tally-fails m (p ∷ ps) t e u =
      let f = or-false (has_failed (c p m)) (some_failed (columns_at c m ps)) e in
      let l = u.later in
      tally-fails m ps (with p t) f.1
      (fails-next m p.number (c p t.rows) t (some_failed (columns_at c (suc m) ps)) ((h p).within t.rows)
      (sym (said (h p) has_failed refl m t.rows (omega arith)) ∙ f.0) (rw (said (h p) has_failed refl (suc m) t.rows l) at u))

  pub tally-passes : (n m : ℕ) → suc m ≤ n → (ps : List Pollutant) (t : Tally) → all_passed (columns_at c (suc m) ps) ≡ true
      → Passes n m (all_passed (columns_at c m ps)) t → Passes n m true (tally c ps t)
  unfolding tally
  tally-passes n m l [] t e u = u
  tally-passes n m l (p ∷ ps) t e u =
      let f = and-true (has_passed (c p (suc m))) (all_passed (columns_at c (suc m) ps)) e in
      let g = and-true (has_passed (c p n)) (leb (at (c p n)) (suc m)) (sym (said (h p) has_passed refl (suc m) n l) ∙ f.0) in
      rw (ap (c p) u.rows)
      (tally-passes n m l ps (counted p.number (c p n) t) f.1
      (passes-next n m p.number (c p n) t (all_passed (columns_at c m ps)) g.0 g.1 (rw (said (h p) has_passed refl m n (omega arith)) at u)))

  pub tally-rests : (n : ℕ) (ps : List Pollutant) (t : Tally) → some_failed (columns_at c n ps) ≡ false
      → Rests n (all_passed (columns_at c n ps)) t → Rests n true (tally c ps t)
  unfolding tally
  tally-rests n [] t e u = u
  tally-rests n (p ∷ ps) t e u =
      let f = or-false (has_failed (c p n)) (some_failed (columns_at c n ps)) e in
      rw (ap (c p) u.rows)
      (tally-rests n ps (counted p.number (c p n) t) f.1 (rests-next n p.number (c p n) t (all_passed (columns_at c n ps)) f.0 u))

  -- the decisions, cut at a row that counts
  pub tally-decisions : (m : ℕ) (ps : List Pollutant) (t : Tally) → m ≤ (tally c ps t).rows
      → map (up_to m) (tally c ps t).decisions ≡ puts (λ p. c p m) ps (map (up_to m) t.decisions)
  unfolding tally
  tally-decisions m [] t l = refl
  tally-decisions m (p ∷ ps) t l =
      let a = tally-most ps (with p t) in
      let b = with-most p t in
      tally-decisions m ps (with p t) l
      ∙ (rw (counted-decisions p.number (c p t.rows) t, map-put (up_to m) p.number (c p t.rows) t.decisions, (h p).cut m t.rows (omega arith)) refl)

-- ---- what a loop over the pollutants keeps: the tally of those that are left is the tally of all

module _ (c : Pollutant → ℕ → Decision) where
  pub tally-next : (ps : List Pollutant) (d : Pollutant) (k : ℕ) (t : Tally) → k < length ps
      → tally c (drop k ps) t ≡ tally c (drop (suc k) ps) (counted (get_or ps k d).number (c (get_or ps k d) t.rows) t)
  unfolding tally
  tally-next ps d k t l = rw (drop-cons ps k d l) refl

  pub tally-end : (ps : List Pollutant) (t : Tally) → tally c (drop (length ps) ps) t ≡ t
  unfolding tally
  tally-end ps t = rw (drop-length ps) refl
