-- Append: a record is judged by what the sheet before it says, and written behind it.
use Rattle.std.specs.Prelude.{Result, Ok, Err}
use Rattle.arithmetic.proofs.Basics.{ℕ, ◌+◌, ◌-◌, ◌≤◌, ◌<◌, arith, ◌≡◌, refl, sym, ap, ◌∙◌, Bool, true, false, cond, List, ◌++◌, eqb, length, take}
use Rattle.arithmetic.proofs.Basics.{drop, length-drop, drop-drop, eq-eqb, ne_eqb, lt-ltb, le-ltb}
use Rattle.rules.specs.Sheet.{size, records}
use Rattle.rules.specs.Refusals.{Check, accepted, refused, check}
use Rattle.rules.specs.Sizes.{append_sized, appended_sized}
use Rattle.rules.specs.Operations.{and_then, no_room, joined, append, appended}
use Rattle.refusals.specs.declared.Reason.{Reason}
use Rattle.layout.specs.declared.Size.{Size}
use Rattle.layout.specs.Sizes.{width_is, name_of}
use Rattle.layout.proofs.Sizes.{known-size, unknown-size, why-unknown}
use Rattle.summary.specs.declared.Summary.{Summary}
use Rattle.summary.specs.State.{nothing}
use Rattle.checking.specs.declared.Refusal.{Refusal}
use Rattle.checking.specs.Check.{refusal_of, summary, checked_by, checked_of, so_far, joined_by, joined_of}
use Rattle.outcomes.specs.Outcomes.{outcome_is, check_is}
use Rattle.outcomes.proofs.Kept.{kept, kept_by}

-- ---- the sheet with the record behind it

check-is : (z : Size) (b : List ℕ) → check_is (checked_of z b) ≡ check (width_is z) b
unfolding checked_of
check-is z b = cases (check (width_is z) b)
  where
    cases : (c : Check) → check_is (checked_by c (summary (records (width_is z) b))) ≡ c
    cases accepted = refl
    cases (refused number place) = refl

so-far-is : (z : Size) (b : List ℕ) → check_is (so_far z b) ≡ cond (eqb (length b) 0) accepted (check (width_is z) b)
unfolding so_far
so-far-is z b = cases (eqb (length b) 0)
  where
    cases : (t : Bool) → check_is (cond t (Ok nothing) (checked_of z b)) ≡ cond t accepted (check (width_is z) b)
    cases true = refl
    cases false = check-is z b

joined_is : (z : Size) (b r : List ℕ) → check_is (joined_of z b r) ≡ joined (width_is z) b r
unfolding joined_of joined
joined_is z b r = rw (← check-is z (b ++ r), ← so-far-is z b) (cases (so_far z b) (checked_of z (b ++ r)))
  where
    cases : (c d : Result Summary Refusal) → check_is (joined_by c d) ≡ and_then (check_is c) (check_is d)
    cases (Ok s) d = refl
    cases (Err f) d = refl

-- ---- the answer, in document 01's order

module _ (z : Size) (b : List ℕ) (u : ℕ) (r : List ℕ) where
  abbrev w : ℕ
  w = width_is z

  pub bad-record : (length r ≡ (size w) → ⊥) → append w b u r ≡ refused 14 0
  unfolding append
  bad-record h = rw (ne_eqb (length r) (size w) h) refl

  module _ (l : length r ≡ (size w)) where
    pub no_room_lem : length b < u + (size w) → append w b u r ≡ refused 13 0
    unfolding append no_room
    no_room_lem h = rw (eq-eqb (length r) (size w) l, lt-ltb (length (drop u b)) (size w) (omega (arith, length-drop u b))) refl

    pub checked-joined : u + (size w) ≤ length b → {c : Result Summary Refusal} → c ≡ joined_of z (take u b) r → append w b u r ≡ check_is c
    unfolding append no_room
    checked-joined h e =
        rw (eq-eqb (length r) (size w) l, le-ltb (length (drop u b)) (size w) (omega (arith, length-drop u b)), le-ltb (length b) u (omega arith), e)
        (sym (joined_is z (take u b) r))

  -- ---- the buffer

  -- the record is copied into the part from u on
  pub wrote : append w b u r ≡ accepted → length r ≡ (size w) → u + length r ≤ length b → {y : List ℕ} → y ≡ r
      → (accepted ≡ append w b u r) × (take u b ++ (y ++ drop (u + length r - u) (drop u b)) ≡ appended w b u r)
  unfolding appended
  wrote e l h p = let n : u + length r - u ≡ size w = omega (arith, l) in (sym e, rw (e, p, n, drop-drop (size w) u b) refl)

-- ---- by the size that a caller names

module _ (s : ℕ) (b : List ℕ) (u : ℕ) (r : List ℕ) {n : Result Size Reason} (e : n ≡ name_of s) where
  pub append-unknown : {why : Reason} → n ≡ Err why → {a : Result (Unit {0}) Refusal} → a ≡ Err (refusal_of why)
      → (outcome_is a ≡ append_sized s b u r) × (b ≡ appended_sized s b u r)
  unfolding append_sized appended_sized
  append-unknown k q =
      (rw (q, why-unknown s e k) (unknown-size s e k _ (λ w. append w b u r)), unknown-size s e k b (λ w. appended w b u r))

  module _ {z : Size} (k : n ≡ Ok z) where
    pub append-known : {a : Check} {held : List ℕ} → (a ≡ append (width_is z) b u r) × (held ≡ appended (width_is z) b u r)
        → (a ≡ append_sized s b u r) × (held ≡ appended_sized s b u r)
    unfolding append_sized appended_sized
    append-known h = (h.0 ∙ known-size s e k _ (λ w. append w b u r), h.1 ∙ known-size s e k b (λ w. appended w b u r))

    -- a refusal, and the buffer stays as it was
    pub append-refused : {f g : Refusal} → f ≡ g → append (width_is z) b u r ≡ refused g.number g.place
        → (refused f.number f.place ≡ append_sized s b u r) × (b ≡ appended_sized s b u r)
    unfolding appended
    append-refused q h = append-known (kept_by q h _ _)

    -- the refusal of the sheet with the record behind it
    pub append-checked : {c : Result Summary Refusal} {f : Refusal} → c ≡ Err f → append (width_is z) b u r ≡ check_is c
        → {a : Check} → a ≡ check_is c → (a ≡ append_sized s b u r) × (b ≡ appended_sized s b u r)
    unfolding appended
    append-checked t h q = append-known (kept (h ∙ ap check_is t) (q ∙ ap check_is t) _ _)
