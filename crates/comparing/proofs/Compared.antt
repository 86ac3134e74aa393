-- What the numbers of two accepted sheets say, record by record, is what document 02 asks of their bytes and of their first engines.
use Rattle.arithmetic.proofs.Basics.{ℕ, zero, suc, ◌+◌, ◌-◌, ◌*◌, ◌/◌, ◌%◌, ◌≤◌, ◌<◌, add-zero, add_assoc, div-add-mod, mul-le-mul_left, arith, ◌≡◌, refl, sym, ap, ◌∙◌, ⊎_elim}
use Rattle.arithmetic.proofs.Basics.{Bool, true, false, not, ◌&&◌, ◌||◌, cond, List, [], ◌∷◌, leb, ltb, eqb, length, drop, get_or-take, get_or-drop, get_or-eq_default}
use Rattle.arithmetic.proofs.Basics.{eqb-true, eq-eqb, not-false, le-leb, lt-leb, le-ltb, never, or-false, or_same, or_right, and-true, and_left, and_right, and-never, by-test, same_test}
use Rattle.arithmetic.proofs.Basics.{lt-or-ge, any-those, some-none, none-some, some_same}
use native.Mathlib.Nat.{mod-lt}
use Rattle.rules.specs.Tools.{any, byte, four}
use Rattle.rules.specs.Sheet.{Record, size, records, stop_kind, run_in_kind, measures, kind, measurement, of_kind, plan_number, numbers}
use Rattle.rules.specs.Plans.{plan_of}
use Rattle.rules.specs.Demands.{in_measurement, first_engine}
use Rattle.rules.specs.Ranges.{differ_elsewhere, differ_at_zero_hours, crossed}
use Rattle.arithmetic.proofs.Pairs.{Pairs, pairs-at}
use Rattle.accepted.specs.Sheets.{record_at_lem, engines_in, AcceptedSheet}
use Rattle.accepted.proofs.Records.{record-at, length-records, whole-records, four-take, four-drop}
use Rattle.accepted.proofs.Faultless.{sound}
use Rattle.accepted.proofs.SameKinds.{SameKind, same-heading, same-engines}
use Rattle.accepted.proofs.Engines.{stop-behind}
use Rattle.accepted.proofs.Ranges.{none_of, of_none}
use Rattle.accepted.proofs.Sheets.{clean, inside, engine-is, run-in-is, record-inside}
use Rattle.comparing.specs.Ranges.{CompareRange}
use Rattle.comparing.specs.Records.{disagree, any_disagrees, is_fixed, record_differs, records_differ, records_cross}

-- ---- a number of four bytes and its bytes

abbrev pub Bytes : List ℕ → Type 0
Bytes b = (k : ℕ) → byte b k < 256

module _ (a b : List ℕ) (i : ℕ) where
  four_bytes : Bytes a → Bytes b → four a i ≡ four b i → (r : ℕ) → r < 4 → byte a (i + r) ≡ byte b (i + r)
  four_bytes x y e zero h = rw add-zero (omega (arith, x i, x (i + 1), x (i + 2), x (i + 3), y i, y (i + 1), y (i + 2), y (i + 3)))
  four_bytes x y e (suc zero) h = omega (arith, x i, x (i + 1), x (i + 2), x (i + 3), y i, y (i + 1), y (i + 2), y (i + 3))
  four_bytes x y e (suc (suc zero)) h = omega (arith, x i, x (i + 1), x (i + 2), x (i + 3), y i, y (i + 1), y (i + 2), y (i + 3))
  four_bytes x y e (suc (suc (suc zero))) h = omega (arith, x i, x (i + 1), x (i + 2), x (i + 3), y i, y (i + 1), y (i + 2), y (i + 3))
  four_bytes x y e (suc (suc (suc (suc r)))) h = absurd (omega arith)

  four_same : ((r : ℕ) → r < 4 → byte a (i + r) ≡ byte b (i + r)) → four a i ≡ four b i
  four_same h = rw (rw add-zero at (h 0 (omega arith)), h 1 (omega arith), h 2 (omega arith), h 3 (omega arith)) refl

-- ---- the two sheets

-- a test of measurements alone, where it fails of what is fixed
none-fixed : (fixed measured test : Bool) → (fixed ≡ true → test ≡ false) → not (fixed || not measured) && test ≡ measured && test
none-fixed true true test h = sym (h refl)
none-fixed false true test h = refl
none-fixed true false test h = refl
none-fixed false false test h = refl

module _ {w : ℕ} {low high : List ℕ} {start : ℕ} (c : CompareRange w low high start) where
  abbrev n : ℕ
  n = length low / size w

  -- what the tests of their numbers say where none disagrees
  record Words (run_in_lem : Bool) : Type 0 where
    heads : (j : ℕ) → j < n → four low (size w * j) ≡ four high (size w * j)
    rest : (j : ℕ) → j < n → is_fixed w low high run_in_lem start j ≡ true → (p : ℕ) → 1 ≤ p → p ≤ w → four low (size w * j + 4 * p) ≡ four high (size w * j + 4 * p)

  abbrev ran_in : Bool
  ran_in = any (λ r. eqb (kind r) run_in_kind) (records w low)

  -- and what document 02's tests say where they do not differ
  record Outside : Type 0 where
    bytes : (j k : ℕ) → j < n → k < size w → in_measurement w low j k ≡ false → byte low (size w * j + k) ≡ byte high (size w * j + k)
    zero_hours : ran_in ≡ true → (p : ℕ) → 1 ≤ p → p ≤ w → measurement (first_engine w low) p ≡ measurement (first_engine w high) p

  same-words : (run_in_lem : Bool) → records_differ w low high run_in_lem start ≡ false → Words run_in_lem
  unfolding records_differ any_disagrees
  same-words run_in_lem e =
      let each : (j : ℕ) → j < n → record_differs w low high run_in_lem start j ≡ false = some-none _ n e in
      record {
        heads = λ j h. eqb-true _ _ (not-false _ (or-false (disagree true (four low (size w * j)) (four high (size w * j))) _ (each j h)).0);
        rest = λ j h f p l u.
            let d = (or-false (disagree true (four low (size w * j)) (four high (size w * j))) _ (each j h)).1 in
            eqb-true _ _ (not-false _ (none_of _ w (and_right (is_fixed w low high run_in_lem start j) _ d f) p l u));
      }

  words_same : (run_in_lem : Bool) → Words run_in_lem → records_differ w low high run_in_lem start ≡ false
  unfolding records_differ any_disagrees
  words_same run_in_lem s =
      none-some _ n
      (λ j h.
      rw (eq-eqb _ _ (s.heads j h))
      (by-test (λ t. is_fixed w low high run_in_lem start j ≡ t → t && any (λ p. disagree true (four low (size w * j + 4 * p)) (four high (size w * j + 4 * p))) (numbers w) ≡ false)
      (is_fixed w low high run_in_lem start j) (λ t f. of_none _ w (λ p l u. rw (eq-eqb _ _ (s.rest j h f p l u)) refl)) (λ t f. refl) refl))

  same-outside : differ_elsewhere w low high || differ_at_zero_hours w low high ≡ false → Outside
  unfolding differ_elsewhere differ_at_zero_hours
  same-outside e =
      let o = or-false (differ_elsewhere w low high) (differ_at_zero_hours w low high) e in
      let b = (or-false (not (eqb (length low) (length high))) _ o.0).1 in
      record {
        bytes = λ j k h i f. eqb-true _ _ (not-false _ (and_right (not (in_measurement w low j k)) _ (some-none _ (size w) (some-none _ n b j h) k i) (rw f refl)));
        zero_hours = λ t p l u. eqb-true _ _ (not-false _ (none_of _ w (and_right ran_in _ o.1 t) p l u));
      }

  outside-same : Outside → differ_elsewhere w low high || differ_at_zero_hours w low high ≡ false
  unfolding differ_elsewhere differ_at_zero_hours
  outside-same s =
      rw (
        eq-eqb _ _ c.equally_long,
        none-some _ n
            (λ j h.
            none-some _ (size w)
            (λ k i.
            by-test (λ t. in_measurement w low j k ≡ t → not t && not (eqb (byte low (size w * j + k)) (byte high (size w * j + k))) ≡ false) (in_measurement w low j k)
            (λ t f. refl) (λ t f. rw (eq-eqb _ _ (s.bytes j k h i f)) refl) refl)),
      )
      (by-test (λ t. ran_in ≡ t → t && any (λ p. not (eqb (measurement (first_engine w low) p) (measurement (first_engine w high) p))) (numbers w) ≡ false) ran_in
      (λ t f. of_none _ w (λ p l u. rw (eq-eqb _ _ (s.zero_hours f p l u)) refl)) (λ t f. refl) refl)

  -- ---- the first engine, of both sheets where their kinds are the same

  -- whether there are run-in values, as the program asks for it
  ran-in : ran_in ≡ eqb (kind (record_at_lem w low (start - 1))) run_in_kind
  unfolding of_kind
  ran-in =
      rw (any-those (λ r. eqb (kind r) run_in_kind) (records w low), run-in-is c.low_sheet)
      (by-test (λ t. leb 1 (length (cond t (record_at_lem w low (start - 1) ∷ []) [])) ≡ t) (eqb (kind (record_at_lem w low (start - 1))) run_in_kind) (λ t. refl) (λ t. refl))

  byte_of : (b : List ℕ) (j : ℕ) → byte (record_at_lem w b j) 0 ≡ byte b (size w * j)
  byte_of b j = get_or-take (size w) (drop (size w * j) b) 0 0 (omega arith) ∙ get_or-drop (size w * j) b 0 0 ∙ ap (byte b) (add-zero (size w * j))

  measured : (b : List ℕ) (p : ℕ) → p ≤ w → measurement (record_at_lem w b start) p ≡ four b (size w * start + 4 * p)
  unfolding measurement
  measured b p u = four-take (size w) (4 * p) (drop (size w * start) b) (omega arith) ∙ four-drop (size w * start) (4 * p) b

  module _ (kinds : (j : ℕ) → j < n → byte low (size w * j) ≡ byte high (size w * j)) where
    same-kinds : Pairs SameKind (records w low) (records w high)
    unfolding kind
    same-kinds =
        let long : length high / size w ≡ n = ap (λ (l : ℕ). l / size w) (sym c.equally_long) in
        pairs-at (records w low) (records w high) [] [] (length-records w low ∙ sym long ∙ sym (length-records w high))
        (λ j h.
        let i : j < n = omega (arith, length-records w low) in
        rw (record-at w low j i, record-at w high j (rw long i)) (byte_of low j ∙ kinds j i ∙ sym (byte_of high j)))

    high-sheet : AcceptedSheet w high (plan_of (plan_number (records w high))) start
    high-sheet =
        record { sized = c.low_sheet.sized; accepts = c.high_accepted; planned = refl; starts = c.low_sheet.starts ∙ same-heading same-kinds }

    as_many : length (engines_in w low) ≡ length (engines_in w high)
    as_many = same-engines same-kinds

    -- the first engine's record is the one at `start`
    module _ (tested : 1 ≤ length (engines_in w low)) where
      start-below : start < n
      start-below =
          let i : size w * start + size w ≤ length low = record-inside _ _ _ _ (inside c.low_sheet) (omega (arith, tested)) in
          ⊎_elim (λ o. o) (λ o. absurd (omega (arith, whole-records (size w) (length low) (sound w low c.low_sheet.accepts).whole, mul-le-mul_left (size w) o))) (lt-or-ge start n)

      first-low : (p : ℕ) → p ≤ w → measurement (first_engine w low) p ≡ four low (size w * start + 4 * p)
      first-low p u = ap (λ (r : Record). measurement r p) (engine-is c.low_sheet 0 tested ∙ ap (record_at_lem w low) (add-zero start)) ∙ measured low p u

      first-high : (p : ℕ) → p ≤ w → measurement (first_engine w high) p ≡ four high (size w * start + 4 * p)
      first-high p u = ap (λ (r : Record). measurement r p) (engine-is high-sheet 0 (rw as_many at tested) ∙ ap (record_at_lem w high) (add-zero start)) ∙ measured high p u

    -- where there is none
    no-first : length (engines_in w low) ≡ 0 → first_engine w low ≡ first_engine w high
    no-first e =
        get_or-eq_default (engines_in w low) [] (omega arith) ∙ sym (get_or-eq_default (engines_in w high) [] (omega (arith, as_many)))

    -- a record with measurements there is an engine's
    tested-there : start < n → measures (byte low (size w * start)) ≡ true → 1 ≤ length (engines_in w low)
    unfolding kind
    tested-there h m =
        ⊎_elim (λ o. o)
        (λ o.
        let s = c.low_sheet.starts in
        let k = stop-behind w (records w low) (clean c.low_sheet) (omega arith) (omega (arith, length-records w low)) in
        let e : byte (record_at_lem w low start) 0 ≡ stop_kind = rw (← s, record-at w low start h) at k in
        let f : byte low (size w * start) ≡ stop_kind = sym (byte_of low start) ∙ e in
        never (rw f at (sym m)))
        (lt-or-ge 0 (length (engines_in w low)))

  -- ---- the one from the other

  module _ (low_bytes : Bytes low) (high_bytes : Bytes high) (run_in_lem : Bool) (is : run_in_lem ≡ eqb (kind (record_at_lem w low (start - 1))) run_in_kind) where
    words-outside : Words run_in_lem → Outside
    words-outside s =
        record {
          bytes = λ j k h i f.
              ⊎_elim (λ l. four_bytes low high (size w * j) low_bytes high_bytes (s.heads j h) k l)
              (λ l.
              let m : measures (byte low (size w * j)) ≡ false = and_left _ (leb 4 k) f (le-leb 4 k l) in
              let d = div-add-mod k 4 in
              let r = mod-lt k {m = 4} (omega arith) in
              let e = s.rest j h (rw m (or_right (run_in_lem && eqb j start) true refl)) (k / 4) (omega arith) (omega arith) in
              let t = four_bytes low high (size w * j + 4 * (k / 4)) low_bytes high_bytes e (k % 4) r in
              let q : size w * j + 4 * (k / 4) + k % 4 ≡ size w * j + k = omega arith in
              rw q at t)
              (lt-or-ge k 4);
          zero_hours = λ t p l u.
              let kinds : (j : ℕ) → j < n → byte low (size w * j) ≡ byte high (size w * j) =
              λ j h. rw add-zero at (four_bytes low high (size w * j) low_bytes high_bytes (s.heads j h) 0 (omega arith)) in
              ⊎_elim
              (λ e.
              first-low kinds e p u
              ∙ s.rest start (start-below kinds e) (rw (is ∙ sym ran-in ∙ t, eq-eqb start start refl) refl) p l u
              ∙ sym (first-high kinds e p u))
              (λ e. ap (λ (r : Record). measurement r p) (no-first kinds (omega arith)))
              (lt-or-ge 0 (length (engines_in w low)));
        }

    outside-words : Outside → Words run_in_lem
    outside-words s =
        let head : (j : ℕ) → j < n → (k : ℕ) → k < 4 → byte low (size w * j + k) ≡ byte high (size w * j + k) =
        λ j h k l. s.bytes j k h (omega arith) (rw (lt-leb 4 k l) (and-never (measures (byte low (size w * j))))) in
        let kinds : (j : ℕ) → j < n → byte low (size w * j) ≡ byte high (size w * j) = λ j h. rw add-zero at (head j h 0 (omega arith)) in
        record {
          heads = λ j h. four_same low high (size w * j) (head j h);
          rest = λ j h f p l u.
              by-test (λ t. measures (byte low (size w * j)) ≡ t → four low (size w * j + 4 * p) ≡ four high (size w * j + 4 * p)) (measures (byte low (size w * j)))
              (λ t m.
              let b = and-true run_in_lem (eqb j start) (rw (m, or_same) at f) in
              let e : j ≡ start = eqb-true j start b.1 in
              let x = tested-there kinds (rw e at h) (rw e at m) in
              rw e (sym (first-low kinds x p u) ∙ s.zero_hours (ran-in ∙ sym is ∙ b.0) p l u ∙ first-high kinds x p u))
              (λ t m.
              four_same low high (size w * j + 4 * p)
              (λ r i. rw add_assoc (s.bytes j (4 * p + r) h (omega arith) (rw m refl))))
              refl;
        }

    -- "27, sheets differ elsewhere, or in the first engine of a run-in sheet"
    pub differs-is : records_differ w low high run_in_lem start ≡ differ_elsewhere w low high || differ_at_zero_hours w low high
    differs-is =
        same_test _ _ (λ e. outside-same (words-outside (same-words run_in_lem e))) (λ e. words_same run_in_lem (outside-words (same-outside e)))

    -- "28, a low above its high, after 27": a record that is the same in both has none
    pub crosses-is : records_differ w low high run_in_lem start ≡ false → records_cross w low high run_in_lem start ≡ crossed w low high
    unfolding records_cross crossed any_disagrees
    crosses-is e =
        let s = same-words run_in_lem e in
        some_same _ _ n
        (λ j h.
        none-fixed (run_in_lem && eqb j start) (measures (byte low (size w * j))) (any (λ p. ltb (four high (size w * j + 4 * p)) (four low (size w * j + 4 * p))) (numbers w))
        (λ f. of_none _ w (λ p l u. le-ltb (four high (size w * j + 4 * p)) (four low (size w * j + 4 * p)) (omega (arith, s.rest j h (rw f refl) p l u)))))
