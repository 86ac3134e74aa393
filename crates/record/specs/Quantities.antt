-- A number for each pollutant, by the pollutant's number.
use Rattle.std.specs.Prelude.{ℕ, cond, eqb}
use Rattle.pollutants.specs.declared.Each.{Each}

-- the number for pollutant p, 0 where that is none of the six
unfoldable pub quantity : Each ℕ → (p : ℕ) → ℕ
quantity q p =
    cond (eqb p 1) q.co
    (cond (eqb p 2) q.hc
    (cond (eqb p 3) q.nox
    (cond (eqb p 4) q.pm
    (cond (eqb p 5) q.fifth
    (cond (eqb p 6) q.sixth 0)))))
