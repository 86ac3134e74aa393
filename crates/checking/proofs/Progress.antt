-- The check of records after others, a record at a time: what is left to check is the answer.
use Rattle.std.specs.Prelude.{Ok, Err}
use Rattle.arithmetic.proofs.Basics.{ℕ, suc, ◌+◌, ◌*◌, ◌/◌, ◌≤◌, ◌<◌, add-zero, add-suc, add-one, div-le_of_le-mul, arith, ◌≡◌, refl, sym, ap, ◌∙◌, cond, List, [], ◌∷◌, ◌++◌}
use Rattle.arithmetic.proofs.Basics.{eqb, length, length-append, drop, drop_of_length-le, drop-cons, ne_eqb}
use Rattle.rules.specs.Sheet.{Record, more_pollutants, size, most, records}
use Rattle.accepted.specs.Sheets.{record_at_lem}
use Rattle.accepted.proofs.Records.{record-at, length-records}
use Rattle.accepted.proofs.Faultless.{clean_of}
use Rattle.layout.specs.declared.Size.{Size}
use Rattle.layout.specs.Sizes.{width_is}
use Rattle.layout.proofs.Sizes.{width-range}
use Rattle.summary.specs.declared.Summary.{Summary}
use Rattle.summary.specs.State.{summary_with, Room}
use Rattle.faults.specs.Faults.{fault_by}
use Rattle.faults.proofs.Agreement.{Agrees, step, fault-agrees, counts-fit}
use Rattle.checking.specs.Check.{checked_from, AfterRanges}
use Rattle.checking.proofs.Laws.{agrees-clean}

-- behind k of the records rs, what was reached tells of all that were seen
pub record Progress (z : Size) (s : Summary) (first : ℕ) (rs : List Record) (k : ℕ) (reached : Summary) : Type 0 where
  pub seen : List Record
  pub many : length seen ≡ first + k
  pub agrees : Agrees z seen reached
  pub left : checked_from z reached (first + k) (drop k rs) ≡ checked_from z s first rs

pub begin : {z : Size} {s : Summary} {first n : ℕ} (rs : List Record) → AfterRanges z s first n → Progress z s first rs 0 s
begin {z} rs a =
    record {
      seen = a.before;
      many = rw add-zero a.many;
      agrees = rw a.says (agrees-clean z a.before (clean_of (width_is z) [] a.before a.accepts));
      left = rw add-zero refl;
    }

module _ {z : Size} {s : Summary} {first : ℕ} (b : List ℕ) (k : ℕ) {t : Summary} (g : Progress z s first (records (width_is z) b) k t) where
  abbrev rs : List Record
  rs = records (width_is z) b

  pub done : length b / size (width_is z) ≤ k → Ok t ≡ checked_from z s first rs
  unfolding checked_from
  done h =
      let m : length rs ≤ k = rw (length-records (width_is z) b) h in
      rw (drop_of_length-le rs m) at g.left

  module _ (h : k < length b / size (width_is z)) where
    -- the records so far are few
    pub few : AfterRanges z s first (length b) → first + k < 2 * most more_pollutants
    few a =
        let l = div-le_of_le-mul (size (width_is z)) {m = length b} {n = most (width_is z)} (omega (arith, a.length)) in
        omega (arith, a.place, width-range z)

    pub room : AfterRanges z s first (length b) → Room t
    room a =
        let c = counts-fit g.agrees in
        let m = g.many in
        record { pollutants = omega (arith, few a); head = omega (arith, few a); engines = omega (arith, few a) }

    module _ {r : Record} {n : ℕ} (e : r ≡ record_at_lem (width_is z) b k) (f : n ≡ fault_by z t r) where
      split : drop k rs ≡ r ∷ drop (suc k) rs
      split =
          let inside : k < length rs = rw (length-records (width_is z) b) h in
          drop-cons rs k [] inside ∙ ap (λ (x : Record). x ∷ drop (suc k) rs) (record-at (width_is z) b k h ∙ sym e)

      opened : cond (eqb n 0) (checked_from z (summary_with t r) (suc (first + k)) (drop (suc k) rs))
          (Err (record { number = n; place = first + k }))
          ≡ checked_from z s first rs
      unfolding checked_from
      opened = rw (split, ← f) at g.left

      pub faulty : (n ≡ 0 → ⊥) → Err (record { number = n; place = first + k }) ≡ checked_from z s first rs
      faulty d = rw (ne_eqb n 0 d) at opened

      pub next : n ≡ 0 → {u : Summary} → u ≡ summary_with t r → Progress z s first rs (k + 1) u
      next z p =
          rw (p, add-one k)
          (record {
            seen = g.seen ++ (r ∷ []);
            many = rw (length-append g.seen (r ∷ []), g.many) (omega arith);
            agrees = step g.agrees r (sym (fault-agrees g.agrees r) ∙ sym f ∙ z);
            left = rw (z, ← add-suc first k) at opened;
          })
