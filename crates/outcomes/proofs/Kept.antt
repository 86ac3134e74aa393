-- "A refused call writes to no buffer."
use Rattle.arithmetic.proofs.Basics.{ℕ, ◌≡◌, refl, ap, List}
use Rattle.rules.specs.Refusals.{Check, refused}
use Rattle.rules.specs.Operations.{on_success}
use Rattle.checking.specs.declared.Refusal.{Refusal}

pub kept : {x a : Check} {n p : ℕ} → x ≡ refused n p → a ≡ refused n p → (changed held : List ℕ) → (a ≡ x) × (held ≡ on_success x changed held)
kept e q changed held = (cc, rw e refl)

-- by the program's refusal
pub kept_by : {r s : Refusal} → r ≡ s → {x : Check} → x ≡ refused s.number s.place → (changed held : List ℕ)
    → (refused r.number r.place ≡ x) × (held ≡ on_success x changed held)
kept_by q e changed held = kept e (ap (λ (f : Refusal). refused f.number f.place) q) changed held
