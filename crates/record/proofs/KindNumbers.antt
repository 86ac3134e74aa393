-- What the kind that a number names says of the number.
use Rattle.std.specs.Prelude.{ℕ, ◌≡◌, true, false, cond, eqb, Ok, Err}
use Rattle.arithmetic.proofs.Basics.{eqb-true, never, by-test}
use Rattle.refusals.specs.declared.Reason.{Reason}
use Rattle.refusals.specs.declared.Reason.TheVariants as reason
use Rattle.record.specs.declared.Kind.{Kind}
use Rattle.record.specs.declared.Kind.TheVariants.{Pollutant, Engine, Stop, SmallEngine, RunIn}
use Rattle.record.specs.Kinds.{kind_number, kind_named}

pub number-of-kind : (n : ℕ) {k : Kind} → kind_named n ≡ Ok k → n ≡ kind_number k
number-of-kind n {k} =
    by-test (λ t. cond t (Ok Pollutant) (cond (eqb n 2) (Ok Engine) (cond (eqb n 3) (Ok Stop) (cond (eqb n 5) (Ok SmallEngine) (cond (eqb n 6) (Ok RunIn) (Err reason.Kind))))) ≡ Ok k → n ≡ kind_number k) (eqb n 1)
    (λ f h. let q : Pollutant ≡ k = cc in rw (← q) (eqb-true n 1 f))
    (λ f. by-test (λ t. cond t (Ok Engine) (cond (eqb n 3) (Ok Stop) (cond (eqb n 5) (Ok SmallEngine) (cond (eqb n 6) (Ok RunIn) (Err reason.Kind)))) ≡ Ok k → n ≡ kind_number k) (eqb n 2)
    (λ f h. let q : Engine ≡ k = cc in rw (← q) (eqb-true n 2 f))
    (λ f. by-test (λ t. cond t (Ok Stop) (cond (eqb n 5) (Ok SmallEngine) (cond (eqb n 6) (Ok RunIn) (Err reason.Kind))) ≡ Ok k → n ≡ kind_number k) (eqb n 3)
    (λ f h. let q : Stop ≡ k = cc in rw (← q) (eqb-true n 3 f))
    (λ f. by-test (λ t. cond t (Ok SmallEngine) (cond (eqb n 6) (Ok RunIn) (Err reason.Kind)) ≡ Ok k → n ≡ kind_number k) (eqb n 5)
    (λ f h. let q : SmallEngine ≡ k = cc in rw (← q) (eqb-true n 5 f))
    (λ f. by-test (λ t. cond t (Ok RunIn) (Err reason.Kind) ≡ Ok k → n ≡ kind_number k) (eqb n 6)
    (λ f h. let q : RunIn ≡ k = cc in rw (← q) (eqb-true n 6 f))
    (λ f h. let q : true ≡ false = cc in never q)))))

-- a number of none, and why it is refused
pub record NoKind (n : ℕ) (r : Reason) : Type 0 where
  pub why : r ≡ reason.Kind
  pub pollutant : eqb n 1 ≡ false
  pub engine : eqb n 2 ≡ false
  pub stop : eqb n 3 ≡ false
  pub small_engine : eqb n 5 ≡ false
  pub run_in : eqb n 6 ≡ false

pub no-kind : (n : ℕ) {r : Reason} → kind_named n ≡ Err r → NoKind n r
no-kind n {r} =
    by-test (λ t. cond t (Ok Pollutant) (cond (eqb n 2) (Ok Engine) (cond (eqb n 3) (Ok Stop) (cond (eqb n 5) (Ok SmallEngine) (cond (eqb n 6) (Ok RunIn) (Err reason.Kind))))) ≡ Err r → NoKind n r) (eqb n 1)
    (λ f h. let q : true ≡ false = cc in never q)
    (λ pollutant. by-test (λ t. cond t (Ok Engine) (cond (eqb n 3) (Ok Stop) (cond (eqb n 5) (Ok SmallEngine) (cond (eqb n 6) (Ok RunIn) (Err reason.Kind)))) ≡ Err r → NoKind n r) (eqb n 2)
    (λ f h. let q : true ≡ false = cc in never q)
    (λ engine. by-test (λ t. cond t (Ok Stop) (cond (eqb n 5) (Ok SmallEngine) (cond (eqb n 6) (Ok RunIn) (Err reason.Kind))) ≡ Err r → NoKind n r) (eqb n 3)
    (λ f h. let q : true ≡ false = cc in never q)
    (λ stop. by-test (λ t. cond t (Ok SmallEngine) (cond (eqb n 6) (Ok RunIn) (Err reason.Kind)) ≡ Err r → NoKind n r) (eqb n 5)
    (λ f h. let q : true ≡ false = cc in never q)
    (λ small_engine. by-test (λ t. cond t (Ok RunIn) (Err reason.Kind) ≡ Err r → NoKind n r) (eqb n 6)
    (λ f h. let q : true ≡ false = cc in never q)
    (λ run_in h. record { why = cc; pollutant = pollutant; engine = engine; stop = stop; small_engine = small_engine; run_in = run_in })))))
