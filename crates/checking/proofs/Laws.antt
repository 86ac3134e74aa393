-- What an accepted sheet says, and the check of a sheet with more bytes behind it.
use Rattle.std.specs.Prelude.{Result, Ok, Err}
use Rattle.arithmetic.proofs.Basics.{ℕ, suc, ◌+◌, ◌/◌, ◌%◌, add-one, div-le_of_le-mul, div-add-mod, arith, ◌≡◌, refl, sym, ◌∙◌, Bool, true, false, cond, List, [], ◌∷◌, ◌++◌, append-nil}
use Rattle.arithmetic.proofs.Basics.{append_assoc, eqb, length, length-append, eqb-true, never, by-test}
use Rattle.rules.specs.Sheet.{Record, size, most, records, cut, stop_kind, stopped, plan_number}
use Rattle.rules.specs.Plans.{plan_of}
use Rattle.rules.specs.Refusals.{Check, accepted, refused, fault_of_lem, check_from, bad_length_lem, check}
use Rattle.accepted.specs.Sheets.{pollutants_in, engines_in, AcceptedSheet}
use Rattle.accepted.proofs.ByNumber.{limit_of_lem}
use Rattle.accepted.proofs.Records.{records-append, length-records}
use Rattle.accepted.proofs.Faultless.{Clean, clean_of, cond-accepted, length-fine, sound, check-clean}
use Rattle.refusals.specs.declared.Reason.{Reason}
use Rattle.refusals.specs.declared.Reason.TheVariants as reason
use Rattle.layout.specs.declared.Size.{Size}
use Rattle.layout.specs.Sizes.{width_is, name_of}
use Rattle.layout.proofs.Sizes.{width-range, known-size, unknown-size, why-unknown}
use Rattle.record.specs.Quantities.{quantity}
use Rattle.summary.specs.declared.Summary.{Summary}
use Rattle.summary.specs.State.{nothing, summary_with}
use Rattle.faults.proofs.Agreement.{Agrees, start, step, fault-agrees}
use Rattle.checking.specs.declared.Refusal.{Refusal}
use Rattle.checking.specs.Check.{refusal_of, length_checked, summary_from, summary, checked_by, checked_at, checked_of, checked_sized, refusal_in, so_far, joined_of, checked_from, Valid, AfterRanges}

-- ---- the program's answer and document 01's

by-sheet : (c : Check) (said : Summary) {t : Summary} → checked_by c said ≡ Ok t → (c ≡ accepted) × (t ≡ said)
by-sheet accepted said e = (refl, cc)
by-sheet (refused number place) said e = let z : true ≡ false = cc in never z

by-refusal : (c : Check) (said : Summary) {f : Refusal} → checked_by c said ≡ Err f → c ≡ refused f.number f.place
by-refusal accepted said e = let z : true ≡ false = cc in never z
by-refusal (refused number place) said e = cc

pub accepted-sheet : (z : Size) (b : List ℕ) {t : Summary} → checked_of z b ≡ Ok t
    → (check (width_is z) b ≡ accepted) × (t ≡ summary (records (width_is z) b))
unfolding checked_of
accepted-sheet z b e = by-sheet (check (width_is z) b) (summary (records (width_is z) b)) e

pub refused-sheet : (z : Size) (b : List ℕ) {f : Refusal} → checked_of z b ≡ Err f → check (width_is z) b ≡ refused f.number f.place
unfolding checked_of
refused-sheet z b e = by-refusal (check (width_is z) b) (summary (records (width_is z) b)) e

-- ---- what the program goes on with

module _ (z : Size) (b : List ℕ) {c : Result Summary Refusal} (e : c ≡ checked_of z b) where
  pub valid : {s : Summary} → c ≡ Ok s → Valid z b s
  valid f = let a = accepted-sheet z b (sym e ∙ f) in record { accepts = a.0; says = a.1 }

  pub refused-so : {f r : Refusal} → c ≡ Err f → r ≡ refusal_in c → check (width_is z) b ≡ refused r.number r.place
  refused-so f q = rw (q, f) (refused-sheet z b (sym e ∙ f))

-- ---- the length

length_tested : (t : Bool) {r : Reason} → cond t (Err reason.Length) (Ok (tt {0})) ≡ Err r → (t ≡ true) × (r ≡ reason.Length)
length_tested true e = (refl, cc)
length_tested false e = let z : true ≡ false = cc in never z

length_passed : (t : Bool) {u : Unit {0}} → cond {A = Result (Unit {0}) Reason} t (Err reason.Length) (Ok (tt {0})) ≡ Ok u → t ≡ false
length_passed true e = let z : true ≡ false = cc in never z
length_passed false e = refl

module _ (w n : ℕ) {c : Result (Unit {0}) Reason} (e : c ≡ length_checked w n) where
  pub length-bad : {r : Reason} → c ≡ Err r → (bad_length_lem w n ≡ true) × (r ≡ reason.Length)
  length-bad k = length_tested (bad_length_lem w n) (sym e ∙ k)

  pub length-good : {u : Unit {0}} → c ≡ Ok u → bad_length_lem w n ≡ false
  length-good k = length_passed (bad_length_lem w n) (sym e ∙ k)

-- ---- the size that a caller names

module _ (s : ℕ) (b : List ℕ) {n : Result Size Reason} (e : n ≡ name_of s) where
  pub size-known : {z : Size} → n ≡ Ok z → {c : Result Summary Refusal} → c ≡ checked_of z b → c ≡ checked_sized s b
  unfolding checked_of checked_sized
  size-known k q = q ∙ known-size s e k _ (λ w. checked_at w b)

  pub size-unknown : {r : Reason} → n ≡ Err r → Err (refusal_of r) ≡ checked_sized s b
  unfolding checked_sized
  size-unknown k = rw (why-unknown s e k) (unknown-size s e k _ (λ w. checked_at w b))

-- ---- records without a fault

agrees_from : {z : Size} (before rs : List Record) (s : Summary) → Agrees z before s → Clean (width_is z) before rs
    → Agrees z (before ++ rs) (summary_from s rs)
unfolding summary_from
agrees_from before [] s a c = rw append-nil a
agrees_from before (r ∷ rs) s a c = rw append_assoc at (agrees_from (before ++ (r ∷ [])) rs (summary_with s r) (step a r c.0) c.1)

pub agrees-clean : (z : Size) (rs : List Record) → Clean (width_is z) [] rs → Agrees z rs (summary rs)
agrees-clean z rs c = agrees_from [] rs nothing (start z) c

pub summary-append : (s : Summary) (rs ts : List Record) → summary_from s (rs ++ ts) ≡ summary_from (summary_from s rs) ts
unfolding summary_from
summary-append s [] ts = refl
summary-append s (r ∷ rs) ts = summary-append (summary_with s r) rs ts

-- the answer for records after others is document 01's
checked-from : {z : Size} (before rs : List Record) (s : Summary) → Agrees z before s
    → checked_from z s (length before) rs ≡ checked_by (check_from (width_is z) before rs) (summary_from s rs)
unfolding checked_from check_from summary_from
checked-from before [] s a = refl
checked-from {z} before (r ∷ rs) s a =
    let n = fault_of_lem (width_is z) before r in
    let all = before ++ (r ∷ []) in
    let t = summary_with s r in
    let longer : length all ≡ suc (length before) = length-append before (r ∷ []) ∙ add-one (length before) in
    rw (fault-agrees a r)
    (by-test
    (λ b.
    cond b (checked_from z t (suc (length before)) rs) (Err (record { number = n; place = length before }))
    ≡ checked_by (cond b (check_from (width_is z) all rs) (refused n (length before))) (summary_from t rs))
    (eqb n 0) (λ q. rw longer at (checked-from all rs t (step a r (eqb-true n 0 q)))) (λ q. refl))

-- ---- a whole sheet stands after nothing

module _ (z : Size) {s : Summary} (e : s ≡ nothing) where
  pub whole-ranges : (n : ℕ) → bad_length_lem (width_is z) n ≡ false → AfterRanges z s 0 n
  unfolding summary_from check_from
  whole-ranges n f =
      record { before = []; accepts = refl; says = e; many = refl; place = omega arith; length = (length-fine (width_is z) n f).1.1 }

  pub whole-checked : (b : List ℕ) → bad_length_lem (width_is z) (length b) ≡ false → checked_from z s 0 (records (width_is z) b) ≡ checked_of z b
  unfolding checked_of check
  whole-checked b f = rw (e, f) (checked-from [] (records (width_is z) b) nothing (start z))

-- ---- an accepted sheet, and what is said of it

module _ {z : Size} {b : List ℕ} {s : Summary} (v : Valid z b s) where
  says_so : Agrees z (records (width_is z) b) s
  says_so = rw v.says (agrees-clean z (records (width_is z) b) (sound (width_is z) b v.accepts).clean)

  pub plan-is : s.plan ≡ plan_number (records (width_is z) b)
  plan-is = says_so.plan_is

  pub accepted-so : AcceptedSheet (width_is z) b (plan_of s.plan) s.head
  accepted-so = record { sized = (width-range z).1; accepts = v.accepts; planned = rw says_so.plan_is refl; starts = says_so.head_is }

  pub pollutants-are : s.pollutants ≡ length (pollutants_in (width_is z) b)
  pollutants-are = says_so.pollutants_is

  pub limits-are : (p : ℕ) → quantity s.limits p ≡ limit_of_lem p (pollutants_in (width_is z) b)
  limits-are = says_so.limit_is

  pub engines-are : s.engines ≡ length (engines_in (width_is z) b)
  engines-are = says_so.engines_is

  pub stopped-is : eqb s.kind stop_kind ≡ stopped (records (width_is z) b)
  stopped-is = says_so.stopped_is

-- ---- bytes behind a sheet that is accepted or has none

no-records : (w : ℕ) (b : List ℕ) → length b ≡ 0 → records w b ≡ []
unfolding records cut
no-records w b e =
    let none : 0 / size w ≡ 0 = omega (arith, div-le_of_le-mul (size w) {m = 0} {n = 0} (omega arith)) in
    rw (e, none) refl

refused-or : (t : Bool) (c : Check) (said : Summary)
    → checked_by (cond t (refused 1 0) c) said ≡ cond t (Err (record { number = 1; place = 0 })) (checked_by c said)
refused-or true c said = refl
refused-or false c said = refl

module _ (z : Size) (b : List ℕ) {s : Summary} (e : so_far z b ≡ Ok s) where
  record SoFar : Type 0 where
    whole : length b % size (width_is z) ≡ 0
    accepts : check_from (width_is z) [] (records (width_is z) b) ≡ accepted
    says : s ≡ summary (records (width_is z) b)

  so-far : SoFar
  unfolding so_far summary_from check_from check
  so-far =
      by-test (λ t. cond t (Ok nothing) (checked_of z b) ≡ Ok s → SoFar) (eqb (length b) 0)
      (λ q h.
      let none : records (width_is z) b ≡ [] = no-records (width_is z) b (eqb-true (length b) 0 q) in
      record { whole = rw (eqb-true (length b) 0 q) (omega (arith, div-add-mod 0 (size (width_is z)))); accepts = rw none refl; says = rw none (cc) })
      (λ q h.
      let a = accepted-sheet z b h in
      record { whole = (sound (width_is z) b a.0).whole; accepts = (cond-accepted 1 (bad_length_lem (width_is z) (length b)) _ a.0).1; says = a.1 })
      e

module _ (z : Size) (b more : List ℕ) {c : Result Summary Refusal} (e : c ≡ so_far z b) where
  pub joined-refused : {f : Refusal} → c ≡ Err f → c ≡ joined_of z b more
  unfolding joined_of
  joined-refused p = rw (sym e ∙ p) p

  module _ {s : Summary} (p : c ≡ Ok s) where
    abbrev rs : List Record
    rs = records (width_is z) b

    said : SoFar z b (sym e ∙ p)
    said = so-far z b (sym e ∙ p)

    clean : Clean (width_is z) [] rs
    clean = clean_of (width_is z) [] rs said.accepts

    joined_is : joined_of z b more
        ≡ cond (bad_length_lem (width_is z) (length b + length more)) (Err (record { number = 1; place = 0 }))
        (checked_from z s (length b / size (width_is z)) (records (width_is z) more))
    unfolding joined_of checked_of check
    joined_is =
        let f : checked_from z (summary rs) (length b / size (width_is z)) (records (width_is z) more)
        ≡ checked_by (check_from (width_is z) rs (records (width_is z) more)) (summary_from (summary rs) (records (width_is z) more)) =
        rw (length-records (width_is z) b) at (checked-from rs (records (width_is z) more) (summary rs) (agrees-clean z rs clean)) in
        rw (
          sym e ∙ p,
          said.says,
          length-append b more,
          records-append (width_is z) b more said.whole,
          check-clean (width_is z) [] rs (records (width_is z) more) clean,
          summary-append nothing rs (records (width_is z) more),
          f,
        )
        (refused-or (bad_length_lem (width_is z) (length b + length more)) _ _)

    pub joined-bad : bad_length_lem (width_is z) (length b + length more) ≡ true → {d : Result Summary Refusal}
        → d ≡ Err (record { number = 1; place = 0 }) → d ≡ joined_of z b more
    joined-bad h q = q ∙ sym (rw h at joined_is)

    module _ (h : bad_length_lem (width_is z) (length b + length more) ≡ false) where
      pub joined-ranges : AfterRanges z s (length b / size (width_is z)) (length more)
      joined-ranges =
          let l = (length-fine (width_is z) (length b + length more) h).1.1 in
          record {
            before = rs;
            accepts = said.accepts;
            says = said.says;
            many = length-records (width_is z) b;
            place = div-le_of_le-mul (size (width_is z)) {m = length b} {n = most (width_is z)} (omega arith);
            length = omega arith;
          }

      pub joined-after : {d : Result Summary Refusal} → d ≡ checked_from z s (length b / size (width_is z)) (records (width_is z) more) → d ≡ joined_of z b more
      joined-after q = q ∙ sym (rw h at joined_is)
