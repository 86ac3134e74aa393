-- F-10, "Callers name the size": no bytes are accepted at both sizes, so that a caller who names the wrong one gets a refusal, and never another verdict.
-- The byte at `size w` is the kind of the second record of w pollutants; in the first record of more pollutants it must be zero.
use Rattle.arithmetic.proofs.Basics.{ℕ, zero, suc, ◌+◌, ◌*◌, ◌/◌, ◌≤◌, ◌<◌, mul-zero, mul-suc, arith, ◌≡◌, refl, sym, ◌∙◌, List, [], length, take, drop}
use Rattle.arithmetic.proofs.Basics.{get_or-take, get_or-drop, never}
use Rattle.rules.specs.Tools.{byte}
use Rattle.rules.specs.Sheet.{pollutants, more_pollutants, size, cut, records, kind, of_kind, declared}
use Rattle.rules.specs.Refusals.{accepted, check}
use Rattle.accepted.proofs.Records.{whole-records}
use Rattle.accepted.proofs.Faultless.{Clean, sound, faultless}
use Rattle.sizes.proofs.Narrowed.{zero-above}

-- a record is there, and a second where there are more bytes than one has
some-record : (s n l : ℕ) → l ≡ s * n → 1 ≤ l → (1 ≤ n) × (s ≤ l)
some-record s zero l e h = absurd (omega (arith, mul-zero s))
some-record s (suc n) l e h = (omega arith, omega (arith, mul-suc s n))

two_records : (s n l : ℕ) → l ≡ s * n → s < l → 2 ≤ n
two_records s zero l e h = absurd (omega (arith, mul-zero s))
two_records s (suc zero) l e h = absurd (omega (arith, mul-suc s 0, mul-zero s))
two_records s (suc (suc n)) l e h = omega arith

module _ (w : ℕ) (b : List ℕ) where
  -- the second record has a kind
  second-kind : (n : ℕ) → 2 ≤ n → Clean w [] (cut (size w) n b) → byte b (size w) ≡ 0 → ⊥
  unfolding cut kind
  second-kind zero l c e = absurd (omega arith)
  second-kind (suc zero) l c e = absurd (omega arith)
  second-kind (suc (suc n)) l c e =
      let z : size w + 0 ≡ size w = omega arith in
      let k : byte (take (size w) (drop (size w) b)) 0 ≡ 0 = get_or-take (size w) (drop (size w) b) 0 0 (omega arith) ∙ get_or-drop (size w) b 0 0 ∙ rw z e in
      never (rw k at (faultless w _ _ c.1.0).kinds)

  -- the first is zero there
  first-zero : (k n : ℕ) → 2 ≤ w → 1 ≤ k → 1 ≤ n → Clean (w + k) [] (cut (size (w + k)) n b) → byte b (size w) ≡ 0
  unfolding cut declared of_kind
  first-zero k zero room more l c = absurd (omega arith)
  first-zero k (suc n) room more l c =
      sym (get_or-take (size (w + k)) b (size w) 0 (omega arith))
      ∙ zero-above w k room [] (take (size (w + k)) b) c.0 refl (size w) (omega arith) (omega arith)

pub one_size : (w k : ℕ) → 2 ≤ w → 1 ≤ k → (b : List ℕ) → check w b ≡ accepted → check (w + k) b ≡ accepted → ⊥
unfolding records
one_size w k room more b a c =
    let s = sound w b a in
    let t = sound (w + k) b c in
    let f = some-record (size (w + k)) (length b / size (w + k)) (length b) (whole-records (size (w + k)) (length b) t.whole) t.some in
    let l = two_records (size w) (length b / size w) (length b) (whole-records (size w) (length b) s.whole) (omega (arith, f.1)) in
    second-kind w b (length b / size w) l s.clean (first-zero w b k (length b / size (w + k)) room more f.0 t.clean)

-- as the product has it: records of 20 bytes and of 28
pub twenty-or-twenty-eight : (b : List ℕ) → check pollutants b ≡ accepted → check more_pollutants b ≡ accepted → ⊥
twenty-or-twenty-eight = one_size pollutants 2 (omega arith) (omega arith)
