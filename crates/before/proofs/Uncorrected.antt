-- Document 02, F-2, corrects by the run-in values, kind 6. On a sheet without kind 6 each d_j, D, W and the count are document 01's, for every
-- number w of pollutants, every q and all bytes.
use Rattle.arithmetic.proofs.Basics.{ℕ, zero, suc, ◌*◌, ◌/◌, ◌^◌, ◌<◌, add-zero, arith, ◌≡◌, refl, ap, ◌∙◌, fun_ext, Bool, false, List, [], map, eqb, ltb, length, drop}
use Rattle.arithmetic.proofs.Basics.{get_or-take, get_or-drop, ltb-same, or_same, any_none}
use Rattle.arithmetic.proofs.Basics.{ℤ, pos, ◌-ℤ◌, ◌*ℤ◌}
use Rattle.arithmetic.proofs.Integers.{diff-pos, diff-add, diff-minus, diff-eq}
use Rattle.rules.specs.Tools.{any, those, total, square, byte}
use Rattle.rules.specs.Logarithm.{Correction, uncorrected, binary_digits, bits, logarithm, g, d, D, W}
use Rattle.rules.specs.Sheet.{Record, size, records, engine_kind, run_in_kind, measures, kind, run_ins}
use Rattle.rules.specs.Plans.{count_over}
use Rattle.rules.specs.Series.{correction}
use Rattle.accepted.specs.Sheets.{record_at_lem}
use Rattle.accepted.proofs.Records.{record-at}
use Rattle.accepted.proofs.Faultless.{of_kind-none}
use Rattle.before.specs.SmallEngines.{is_new}

-- ---- where there is no correction

-- the square of 2^31 is 2^62, below 2^63: each bit is 0, and the next number is 2^31 again
no_bits : (q : ℕ) → bits q 0 (2 ^ 31) ≡ 0
unfolding bits
no_bits zero = refl
no_bits (suc q) = no_bits q

pub g-one : (q : ℕ) → g q 1 ≡ 0
unfolding g logarithm binary_digits
g-one q = rw (no_bits q) (omega arith)

-- "d_j = g(x_j) − g(L)"
pub d-plain : (q L x : ℕ) → d q L uncorrected x ≡ pos (g q x) -ℤ pos (g q L)
d-plain q L x =
    rw (g-one q)
    (diff-eq (diff-minus (diff-minus (diff-add (diff-pos (g q x)) (diff-pos 0)) (diff-pos 0)) (diff-pos (g q L)))
    (diff-minus (diff-pos (g q x)) (diff-pos (g q L))) (omega arith))

-- "c = engines with x > L"
pub count-plain : (L : ℕ) (xs : List ℕ) → count_over L uncorrected xs ≡ length (those (λ x. ltb L x) xs)
count-plain L xs = ap (λ (t : ℕ → Bool). length (those t xs)) (fun_ext (λ x. ltb-same (L * 1) (x * 1) L x (omega arith)))

-- ---- a sheet without kind 6: every pollutant p is uncorrected, whatever the first engines

-- document 01's d_j
abbrev d_before : (q L x : ℕ) → ℤ
d_before q L x = pos (g q x) -ℤ pos (g q L)

module _ (w : ℕ) (b : List ℕ) (plain : any is_new (records w b) ≡ false) (first : List Record) (p : ℕ) where
  abbrev own : Correction
  own = correction (run_ins (records w b)) first p

  pub correction-plain : own ≡ uncorrected
  correction-plain = rw (of_kind-none run_in_kind (records w b) plain) refl

  pub count-as-before : (L : ℕ) (xs : List ℕ) → count_over L own xs ≡ length (those (λ x. ltb L x) xs)
  count-as-before L xs = rw correction-plain (count-plain L xs)

  module _ (q L : ℕ) where
    pub d-as-before : (x : ℕ) → d q L own x ≡ d_before q L x
    d-as-before x = rw correction-plain (d-plain q L x)

    -- "D is the sum of the d_j over n engines; W = n × (sum of d_j squared) − D squared"
    pub D-as-before : (xs : List ℕ) → D q L own xs ≡ total (map (d_before q L) xs)
    D-as-before xs = ap (λ (f : ℕ → ℤ). total (map f xs)) (fun_ext d-as-before)

    pub W-as-before : (xs : List ℕ)
        → W q L own xs ≡ pos (length xs) *ℤ total (map (λ x. square (d_before q L x)) xs) -ℤ square (total (map (d_before q L) xs))
    W-as-before xs = ap (λ (f : ℕ → ℤ). pos (length xs) *ℤ total (map (λ x. square (f x)) xs) -ℤ square (total (map f xs))) (fun_ext d-as-before)

-- ---- the words of demand 3: on a sheet without kind 6 "alike" and "none higher" read the measurements of engines alone, as in document 01

pub measures-as-before : (w : ℕ) (b : List ℕ) → any is_new (records w b) ≡ false → (j : ℕ) → j < length b / size w
    → measures (byte b (size w * j)) ≡ eqb (byte b (size w * j)) engine_kind
unfolding kind
measures-as-before w b plain j h =
    let r : Record = record_at_lem w b j in
    let n : eqb (byte r 0) run_in_kind ≡ false = rw (record-at w b j h) at (any_none is_new [] refl (records w b) plain j) in
    let o : byte r 0 ≡ byte b (size w * j) =
    get_or-take (size w) (drop (size w * j) b) 0 0 (omega arith) ∙ get_or-drop (size w * j) b 0 0 ∙ ap (byte b) (add-zero (size w * j)) in
    rw (rw o at n) (or_same (eqb (byte b (size w * j)) engine_kind))
