-- What there is of each pollutant, by the pollutant's number.
use Rattle.std.specs.Prelude.{ℕ, cond, eqb, List, [], ◌∷◌}
use Rattle.pollutants.specs.declared.Each.{Each}

-- the same of each
abbrev pub all_lem : {T : Type 0} → T → Each T
all_lem x = record { co = x; hc = x; nox = x; pm = x; fifth = x; sixth = x }

-- these, but x of pollutant p
unfoldable pub with_lem : {T : Type 0} → Each T → (p : ℕ) → T → Each T
with_lem q p x =
    record {
      co = cond (eqb p 1) x q.co;
      hc = cond (eqb p 2) x q.hc;
      nox = cond (eqb p 3) x q.nox;
      pm = cond (eqb p 4) x q.pm;
      fifth = cond (eqb p 5) x q.fifth;
      sixth = cond (eqb p 6) x q.sixth;
    }

-- what f says of each, pollutant 1 first
abbrev pub each : {T A : Type 0} → (f : T → A) → Each T → List A
each f q = f q.co ∷ f q.hc ∷ f q.nox ∷ f q.pm ∷ f q.fifth ∷ f q.sixth ∷ []
