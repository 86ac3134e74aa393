-- Two sheets alike in all but the measurements, none higher in the second: so are their records, one by one.
use Rattle.arithmetic.proofs.Basics.{ℕ, suc, ◌+◌, ◌*◌, ◌/◌, ◌%◌, ◌≤◌, ◌<◌, add-zero, mul-le-mul_left, arith, ◌≡◌, refl, sym, ap, ◌∙◌, true, false, ◌&&◌, List}
use Rattle.arithmetic.proofs.Basics.{[], leb, eqb, length, take, drop, get_or-take, get_or-drop, length-take-le, length-drop, ext_get_or, lt-leb, eqb-true, and-never}
use Rattle.rules.specs.Tools.{byte}
use Rattle.rules.specs.Sheet.{Record, size, pollutant_kind, stop_kind, measures, records, kind, plan, measurement, of_kind, stopped, plan_number, pollutant, declared}
use Rattle.rules.specs.Demands.{Alike, NoneHigher}
use Rattle.arithmetic.proofs.Pairs.{Pairs, none, more, pairs-at, pairs-those, same_map, same-any}
use Rattle.accepted.proofs.Records.{record-at, length-records, whole-records, four-take, four-drop}

-- ---- record by record

-- the bytes before the measurements are the same, a record without measurements is the same, and no measurement is higher
pub record Same (w : ℕ) (a b : Record) : Type 0 where
  pub head : (k : ℕ) → k < 4 → byte a k ≡ byte b k
  pub whole : measures (kind a) ≡ false → a ≡ b
  pub lower : measures (kind a) ≡ true → (p : ℕ) → 1 ≤ p → p ≤ w → measurement b p ≤ measurement a p

module _ (w : ℕ) (R S : List ℕ) (a : Alike w R S) (n : NoneHigher w R S) where
  same_at : (j : ℕ) → size w * suc j ≤ length R → Same w (take (size w) (drop (size w * j) R)) (take (size w) (drop (size w * j) S))
  unfolding kind measurement
  same_at j i =
      let byte_of : (b : List ℕ) (k : ℕ) → k < size w → byte (take (size w) (drop (size w * j) b)) k ≡ byte b (size w * j + k) =
      λ b k h. get_or-take (size w) (drop (size w * j) b) k 0 h ∙ get_or-drop (size w * j) b k 0 in
      let length-of : (b : List ℕ) → size w * suc j ≤ length b → length (take (size w) (drop (size w * j) b)) ≡ size w =
      λ b h. length-take-le (size w) (drop (size w * j) b) (rw length-drop (omega arith)) in
      let l_r = length-of R i in
      let l_s = length-of S (rw (← a.equally_long) i) in
      let o : byte (take (size w) (drop (size w * j) R)) 0 ≡ byte R (size w * j) = byte_of R 0 (omega arith) ∙ ap (byte R) (add-zero (size w * j)) in
      let same : (k : ℕ) → k < size w → measures (byte R (size w * j)) && leb 4 k ≡ false
      → byte (take (size w) (drop (size w * j) R)) k ≡ byte (take (size w) (drop (size w * j) S)) k =
      λ k h e. rw (byte_of R k h, byte_of S k h) (a.outside j k h (omega arith) e) in
      record {
        head = λ k h. same k (omega arith) (rw (lt-leb 4 k h) (and-never (measures (byte R (size w * j)))));
        whole = λ e.
            let m : measures (byte R (size w * j)) ≡ false = rw o at e in
            ext_get_or 0 _ _ (l_r ∙ sym l_s) (λ k h. same k (omega arith) (rw m refl));
        lower = λ e p h k.
            rw (four-take (size w) (4 * p) (drop (size w * j) R) (omega arith), four-drop (size w * j) (4 * p) R)
            (rw (four-take (size w) (4 * p) (drop (size w * j) S) (omega arith), four-drop (size w * j) (4 * p) S)
            (n j p (omega arith) (rw o at e) h k));
      }

  pub records-same : length R % size w ≡ 0 → Pairs (Same w) (records w R) (records w S)
  records-same m =
      let l : length (records w R) ≡ length (records w S) = length-records w R ∙ ap (λ (x : ℕ). x / size w) a.equally_long ∙ sym (length-records w S) in
      pairs-at (records w R) (records w S) [] [] l
      (λ j h.
      let i : j < length R / size w = omega (arith, length-records w R) in
      let i' : j < length S / size w = omega (arith, length-records w S) in
      rw (record-at w R j i, record-at w S j i')
      (same_at j (omega (arith, whole-records (size w) (length R) m, mul-le-mul_left (size w) i))))

-- ---- what two such records have in common

module _ {w : ℕ} {a b : Record} (s : Same w a b) where
  pub same_kind : kind a ≡ kind b
  unfolding kind
  same_kind = s.head 0 (omega arith)

  same-plan : plan a ≡ plan b
  unfolding plan
  same-plan = s.head 2 (omega arith)

  same_test : (k : ℕ) → eqb (kind a) k ≡ eqb (kind b) k
  same_test k = ap (λ (x : ℕ). eqb x k) same_kind

  same-pollutant : eqb (kind a) pollutant_kind ≡ true → pollutant a ≡ pollutant b
  same-pollutant e = ap pollutant (s.whole (rw (eqb-true (kind a) pollutant_kind e) refl))

-- ---- and the records of two such sheets

module _ {w : ℕ} {rs ts : List Record} (same : Pairs (Same w) rs ts) where
  -- the records of a kind
  pub of-kind : (k : ℕ) → Pairs (λ (a b : Record). (eqb (kind a) k ≡ true) × Same w a b) (of_kind k rs) (of_kind k ts)
  unfolding of_kind
  of-kind k = pairs-those (λ a. eqb (kind a) k) (λ b. eqb (kind b) k) (λ a b s. same_test s k) same

  pub stopped-same : stopped rs ≡ stopped ts
  stopped-same = same-any (λ a. eqb (kind a) stop_kind) (λ b. eqb (kind b) stop_kind) (λ a b s. same_test s stop_kind) same

  pub declared_same : declared rs ≡ declared ts
  unfolding declared
  declared_same = same_map pollutant pollutant (λ a b s. same-pollutant s.1 s.0) (of-kind pollutant_kind)

pub plan-same : {w : ℕ} {rs ts : List Record} → Pairs (Same w) rs ts → plan_number rs ≡ plan_number ts
unfolding plan_number
plan-same none = refl
plan-same (more s r) = same-plan s
