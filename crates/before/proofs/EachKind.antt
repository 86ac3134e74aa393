-- The kinds that there are: document 01's, and those of the requests one by one.
use Rattle.arithmetic.proofs.Basics.{ℕ, ◌≡◌, refl, sym, ◌∙◌, Bool, true, false, ◌||◌, eqb, ne_eqb, never, or-false}
use Rattle.rules.specs.Tools.{within}
use Rattle.rules.specs.Sheet.{pollutant_kind, stop_kind, small_engine_kind, run_in_kind}
use Rattle.rules.specs.Refusals.{is_kind}
use Rattle.accepted.proofs.Faultless.{by_kind}

-- "2, kind not 1 to 3"; 02, F-1: "record kind 5"; F-2: "Record kind 6"
pub kinds-are : (k : ℕ) → is_kind k ≡ within pollutant_kind stop_kind k || eqb k small_engine_kind || eqb k run_in_kind
kinds-are k =
    by_kind k (λ e. rw e refl) (λ e. rw e refl) (λ e. rw e refl) (λ e. rw e refl) (λ e. rw e refl)
    (λ n o. rw (o, (or-false (within pollutant_kind stop_kind k) _ o).0, n small_engine_kind refl, n run_in_kind refl) refl)

-- of a number that a test holds of, and one that it does not hold of
pub not-such : (test : ℕ → Bool) (k n : ℕ) → test n ≡ false → test k ≡ true → eqb k n ≡ false
not-such test k n f e = ne_eqb k n (λ z. never (sym e ∙ rw z f))
