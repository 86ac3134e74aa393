-- Bytes that are written one after another stand in the lines one after another, where there is room for them.
use Rattle.arithmetic.proofs.Basics.{ℕ, ◌+◌, ◌≤◌, ◌<◌, add-one, arith, ◌≡◌, refl, sym, ap, ◌∙◌, List, [], ◌∷◌, ◌++◌, append-nil, append_assoc, length, set}
use Rattle.arithmetic.proofs.Basics.{length-set, length-append, take-suc-set, length-take-le, lt-ltb}
use Rattle.rules.specs.Printed.{line}
use Rattle.lines.specs.declared.Lines.{Lines}
use Rattle.lines.specs.Writing.{room, nothing, with_byte_lem, with_bytes, held, Adds, Kept, Written}

pub with_append : (l : Lines) (a b : List ℕ) → with_bytes l (a ++ b) ≡ with_bytes (with_bytes l a) b
unfolding with_bytes
with_append l [] b = refl
with_append l (x ∷ a) b = with_append (with_byte_lem l x) a b

-- ---- bytes behind one another

pub add-byte : {l m : Lines} {b : ℕ} → m ≡ with_byte_lem l b → Adds l m (b ∷ []) 1
unfolding with_bytes
add-byte e = record { adds = e; few = omega arith }

pub add-word : {l m : Lines} {w : List ℕ} → m ≡ with_bytes l w → Adds l m w (length w)
add-word e = record { adds = e; few = omega arith }

pub add_none : (l : Lines) (most : ℕ) → Adds l l [] most
unfolding with_bytes
add_none l most = record { adds = refl; few = omega arith }

pub add-then : {l m n : Lines} {a b : List ℕ} {p q : ℕ} → Adds l m a p → Adds m n b q → Adds l n (a ++ b) (p + q)
add-then {l} {m} {n} {a} {b} h k =
    record {
      adds = k.adds ∙ (ap (λ (x : Lines). with_bytes x b) h.adds ∙ sym (with_append l a b));
      few = omega (arith, length-append a b, h.few, k.few);
    }

pub at_most : {l m : Lines} {a : List ℕ} {p : ℕ} (q : ℕ) → Adds l m a p → length a ≤ q → Adds l m a q
at_most q h f = record { adds = h.adds; few = f }

-- three words make a line
pub add-line : (u v w : List ℕ) {l l₁ l₂ l₃ l₄ l₅ m : Lines} {most : ℕ} → l₁ ≡ with_bytes l u → l₂ ≡ with_byte_lem l₁ 32 → l₃ ≡ with_bytes l₂ v
    → l₄ ≡ with_byte_lem l₃ 32 → l₅ ≡ with_bytes l₄ w → m ≡ with_byte_lem l₅ 10 → length u + length v + length w + 3 ≤ most
    → Adds l m (line (u ∷ v ∷ w ∷ [])) most
add-line u v w {most = most} e₁ e₂ e₃ e₄ e₅ e₆ f =
    at_most most
    (add-then (add-word e₁) (add-then (add-byte e₂) (add-then (add-word e₃) (add-then (add-byte e₄) (add-then (add-word e₅) (add-byte e₆))))))
    (simp length-append (omega arith))

-- ---- what the lines then hold

-- the lines `after` have their room, and hold what `before` holds and then bs
record Longer (before : Lines) (bs : List ℕ) (after : Lines) : Type 0 where
  roomy : length after.bytes ≡ room
  long : after.length ≡ before.length + length bs
  holds : held after ≡ held before ++ bs

with-room : (l : Lines) (b : ℕ) → l.length < room → with_byte_lem l b ≡ record { bytes = set l.bytes l.length b; length = l.length + 1 }
unfolding with_byte_lem
with-room l b h = rw (lt-ltb l.length room h) refl

longer : (bs : List ℕ) (l : Lines) → length l.bytes ≡ room → l.length + length bs ≤ room → Longer l bs (with_bytes l bs)
unfolding with_bytes
longer [] l r f = record { roomy = r; long = omega arith; holds = sym (append-nil (held l)) }
longer (b ∷ bs) l r f =
    let n = l.length in
    let t : List ℕ = set l.bytes n b in
    let m : Lines = record { bytes = t; length = n + 1 } in
    let g : Longer m bs (with_bytes m bs) = longer bs m (length-set l.bytes n b ∙ r) (omega arith) in
    let e : held m ≡ held l ++ (b ∷ []) = rw (add-one n) (take-suc-set l.bytes n b (omega arith)) in
    rw (with-room l b (omega arith))
    (record {
      roomy = g.roomy;
      long = omega (arith, g.long);
      holds = g.holds ∙ (ap (λ (x : List ℕ). x ++ bs) e ∙ append_assoc (held l) (b ∷ []) bs);
    })

-- what was written to empty lines is what they hold
pub written : {l : Lines} {bs : List ℕ} → Adds nothing l bs room → Written l bs
unfolding nothing
written {l} {bs} a =
    let g : Longer nothing bs (with_bytes nothing bs) = longer bs nothing refl (omega (arith, a.few)) in
    rw a.adds (record { holds = g.holds; kept = record { roomy = g.roomy; within = omega (arith, g.long, a.few) } })

-- a part of the array that ends where the lines do is as long as they are
pub part-fits : {l : Lines} → Kept l → l.length ≤ length l.bytes
part-fits k = omega (arith, k.roomy, k.within)

pub part_length : {l : Lines} → Kept l → l.length ≡ length (held l)
part_length {l} k = sym (length-take-le l.length l.bytes (part-fits k))
