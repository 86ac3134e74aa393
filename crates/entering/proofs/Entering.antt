-- Entering a finding: the refusals in document 02's order, the place of an engine's cause, and the bytes that are written.
use Rattle.std.specs.Prelude.{Result, Ok, Err}
use Rattle.arithmetic.proofs.Basics.{ℕ, ◌+◌, ◌-◌, ◌*◌, ◌/◌, ◌%◌, ◌≤◌, ◌<◌, mul-le-mul, arith, ◌≡◌, refl, sym, ap, ◌∙◌, true, false, not, ◌||◌, cond, List, [], leb, ltb}
use Rattle.arithmetic.proofs.Basics.{eqb, length, get_or, set, get_or-eq_default, eqb-true, eqb-false, ne_eqb, le-leb, lt-leb, ltb-true, ltb-false, leb-true, leb-false}
use Rattle.arithmetic.proofs.Basics.{or-false, by-test}
use Rattle.rules.specs.Tools.{within}
use Rattle.rules.specs.Sheet.{size, most, more_pollutants, cause, pending, is_pending}
use Rattle.rules.specs.Refusals.{Check, accepted, refused, greatest_cause, check}
use Rattle.rules.specs.Findings.{no_pending, enter, put_two, entered, enter_sized, entered_sized}
use Rattle.accepted.specs.Sheets.{record_at_lem, engines_in}
use Rattle.accepted.proofs.Sheets.{engine-is, few, inside, record-inside}
use Rattle.refusals.specs.declared.Reason.{Reason}
use Rattle.layout.specs.declared.Size.{Size}
use Rattle.layout.specs.Sizes.{width_is, name_of}
use Rattle.layout.proofs.Sizes.{width-range, known-size, unknown-size, why-unknown}
use Rattle.summary.specs.declared.Summary.{Summary}
use Rattle.checking.specs.declared.Refusal.{Refusal}
use Rattle.checking.specs.Check.{refusal_of, checked_of, Valid}
use Rattle.outcomes.specs.Outcomes.{outcome_is, check_is}
use Rattle.outcomes.proofs.Kept.{kept, kept_by}
use Rattle.checking.proofs.Laws.{refused-sheet, accepted-so, engines-are}
use Rattle.entering.specs.Engines.{cause_of_lem}

-- "finding not 1 to 65,534", as the program asks for it
outside : (x : ℕ) → not (within 1 greatest_cause x) ≡ eqb x 0 || leb pending x
outside x =
    by-test (λ t. not (within 1 greatest_cause x) ≡ t || leb pending x) (eqb x 0) (λ e. rw (eqb-true x 0 e) refl)
    (λ e.
    let d = eqb-false x 0 e in
    rw (le-leb 1 x (omega arith))
    (by-test (λ t. not (leb x greatest_cause) ≡ t) (leb pending x)
    (λ f. rw (lt-leb x greatest_cause (omega (arith, leb-true pending x f))) refl)
    (λ f. rw (le-leb x greatest_cause (omega (arith, leb-false pending x f))) refl)))

pub below-pending : (x : ℕ) → eqb x 0 || leb pending x ≡ false → x < pending
below-pending x e = leb-false pending x (or-false (eqb x 0) (leb pending x) e).1

-- ---- the record of engine n, and its cause

module _ (z : Size) (b : List ℕ) (n : ℕ) {said : Summary} (v : Valid z b said) where
  abbrev w : ℕ
  w = width_is z

  -- "no pending vehicle at that engine", by its cause
  pub asked : no_pending w b n ≡ not (is_pending (cause_of_lem w b n))
  unfolding no_pending cause_of_lem
  asked =
      by-test (λ t. t || not (is_pending (cause (get_or (engines_in w b) (n - 1) []))) ≡ not (is_pending (cond t 0 (cause (get_or (engines_in w b) (n - 1) [])))))
      (eqb n 0) (λ e. refl) (λ e. refl)

  -- there is none by that number
  pub no-engine : eqb n 0 || ltb said.engines n ≡ true → cause_of_lem w b n ≡ 0
  unfolding cause_of_lem cause
  no-engine e =
      by-test (λ t. t || ltb said.engines n ≡ true → cond t 0 (cause (get_or (engines_in w b) (n - 1) [])) ≡ 0) (eqb n 0) (λ q h. refl)
      (λ q h.
      let l : length (engines_in w b) ≤ n - 1 = omega (arith, ltb-true said.engines n h, engines-are v) in
      rw (get_or-eq_default (engines_in w b) [] l) refl) e

  module _ (e : eqb n 0 || ltb said.engines n ≡ false) where
    pub counted : (1 ≤ n) × (n ≤ length (engines_in w b))
    counted =
        let p = or-false (eqb n 0) (ltb said.engines n) e in
        let d = eqb-false n 0 p.0 in
        (omega arith, omega (arith, ltb-false said.engines n p.1, engines-are v))

    pub record-fits : size w * (said.head + (n - 1)) + size w ≤ length b
    record-fits = record-inside _ _ _ _ (inside (accepted-so v)) (omega (arith, counted))

    pub few-records : said.head + (n - 1) ≤ most more_pollutants
    few-records = omega (arith, few (accepted-so v), counted)

    pub cause-is : {c : ℕ} → c ≡ cause (record_at_lem w b (said.head + (n - 1))) → c ≡ cause_of_lem w b n
    unfolding cause_of_lem
    cause-is ce =
        rw (ne_eqb n 0 (λ o. omega (arith, counted)), engine-is (accepted-so v) (n - 1) (omega (arith, counted))) ce

  -- a vehicle whose finding is pending is on the sheet
  pub on-the-sheet : cause_of_lem w b n ≡ pending → eqb n 0 || ltb said.engines n ≡ false
  on-the-sheet p =
      by-test (λ t. eqb n 0 || ltb said.engines n ≡ t → t ≡ false) (eqb n 0 || ltb said.engines n)
      (λ e q. absurd (omega (arith, no-engine q, p))) (λ e q. refl) refl

-- where its cause stands, in records of so many bytes behind the heading: in the sheet, and a small number
pub record Placed (bytes head n length : ℕ) : Type 0 where
  pub counted : 1 ≤ n
  pub few : head + (n - 1) ≤ most more_pollutants
  pub near : bytes * (head + (n - 1)) ≤ size more_pollutants * most more_pollutants
  pub inside : bytes * (head + (n - 1)) + 4 ≤ length

pub placed : (z : Size) (b : List ℕ) (n : ℕ) {said : Summary} → Valid z b said → cause_of_lem (width_is z) b n ≡ pending → {s : ℕ} → s ≡ size (width_is z)
    → Placed s said.head n (length b)
placed z b n v p e =
    let o = on-the-sheet z b n v p in
    let l : size (width_is z) ≤ size more_pollutants = omega (arith, (width-range z).1) in
    rw e
    (record {
      counted = (counted z b n v o).0;
      few = few-records z b n v o;
      near = mul-le-mul l (few-records z b n v o);
      inside = omega (arith, record-fits z b n v o);
    })

-- ---- the answer, in document 02's order

module _ (z : Size) (b : List ℕ) (n x : ℕ) where
  pub sheet-refused : {number place : ℕ} → check (width_is z) b ≡ refused number place → enter (width_is z) b n x ≡ refused number place
  unfolding enter
  sheet-refused e = rw e refl

  module _ {said : Summary} (v : Valid z b said) {c : ℕ} (ce : c ≡ cause_of_lem (width_is z) b n) where
    pub not-pending : (c ≡ pending → ⊥) → enter (width_is z) b n x ≡ refused 23 0
    unfolding enter
    not-pending h = rw (v.accepts, asked z b n v, ← ce, ne_eqb c pending h) refl

    module _ (p : c ≡ pending) where
      found : enter (width_is z) b n x ≡ cond (eqb x 0 || leb pending x) (refused 24 0) accepted
      unfolding enter
      found = rw (v.accepts, asked z b n v, ← ce, p, outside x) refl

      pub bad-finding : eqb x 0 || leb pending x ≡ true → enter (width_is z) b n x ≡ refused 24 0
      bad-finding f = found ∙ (rw f refl)

      -- the two bytes of a number of 16 bits
      pub wrote : eqb x 0 || leb pending x ≡ false → let at = size (width_is z) * (said.head + (n - 1)) + 2 in
          (accepted ≡ enter (width_is z) b n x) × (set (set b at (x % 256)) (at + 1) (x / 256 % 256) ≡ entered (width_is z) b n x)
      unfolding entered put_two
      wrote f =
          let d : enter (width_is z) b n x ≡ accepted = found ∙ (rw f refl) in
          let h : x / 256 % 256 ≡ x / 256 = omega (arith, below-pending x f) in
          (sym d, rw (d, h, ← (accepted-so v).starts) refl)

-- ---- by the size that a caller names

module _ (s : ℕ) (b : List ℕ) (n x : ℕ) {name : Result Size Reason} (e : name ≡ name_of s) where
  pub enter-unknown : {why : Reason} → name ≡ Err why → {o : Result (Unit {0}) Refusal} → o ≡ Err (refusal_of why)
      → (outcome_is o ≡ enter_sized s b n x) × (b ≡ entered_sized s b n x)
  unfolding enter_sized entered_sized
  enter-unknown k q =
      (rw (q, why-unknown s e k) (unknown-size s e k _ (λ w. enter w b n x)), unknown-size s e k b (λ w. entered w b n x))

  module _ {z : Size} (k : name ≡ Ok z) where
    pub enter-known : {a : Check} {held : List ℕ} → (a ≡ enter (width_is z) b n x) × (held ≡ entered (width_is z) b n x)
        → (a ≡ enter_sized s b n x) × (held ≡ entered_sized s b n x)
    unfolding enter_sized entered_sized
    enter-known h = (h.0 ∙ known-size s e k _ (λ w. enter w b n x), h.1 ∙ known-size s e k b (λ w. entered w b n x))

    -- a refusal, and the sheet stays as it was
    pub enter-refused : {f g : Refusal} → f ≡ g → enter (width_is z) b n x ≡ refused g.number g.place
        → (refused f.number f.place ≡ enter_sized s b n x) × (b ≡ entered_sized s b n x)
    unfolding entered
    enter-refused q h = enter-known (kept_by q h _ _)

    -- the sheet's own
    pub enter-checked : {c : Result Summary Refusal} → c ≡ checked_of z b → {f : Refusal} → c ≡ Err f → {a : Check} → a ≡ check_is c
        → (a ≡ enter_sized s b n x) × (b ≡ entered_sized s b n x)
    unfolding entered
    enter-checked d t q = enter-known (kept (sheet-refused z b n x (refused-sheet z b (sym d ∙ t))) (q ∙ ap check_is t) _ _)
