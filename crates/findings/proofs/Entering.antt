-- Document 02, F-5, what a call that enters a finding does, for every w: "A new operation enters the finding and changes only that record's two
-- cause bytes."
use Rattle.arithmetic.proofs.Basics.{ℕ, suc, ◌+◌, ◌-◌, arith, ◌≡◌, refl, sym, ◌∙◌, List, [], ◌∷◌, ◌++◌, length, get_or, set, length-append, get_or-set_other, set_at, get_or_at}
use Rattle.arithmetic.proofs.Basics.{those-append, those-without, those-with, any-those, leb-true}
use Rattle.rules.specs.Tools.{those, byte}
use Rattle.rules.specs.Sheet.{records, cause, engines, heading}
use Rattle.rules.specs.Refusals.{accepted}
use Rattle.rules.specs.Findings.{enter, cause_place, entered}
use Rattle.rules.specs.Demands.{Held}
use Rattle.accepted.proofs.Faultless.{heading-append}
use Rattle.demands.proofs.Held.{waits, held-pending}
use Rattle.findings.specs.Pendings.{pendings}
use Rattle.findings.proofs.Entry.{found-kind, found-pending, found-known, engines-with, Entry, put_other, length-put, changes, entry}

-- ---- of the records

module _ {w n x : ℕ} {b S : List ℕ} (t : Entry w n x b S) where
  before-it : engines (records w b) ≡ engines t.ahead ++ (t.vehicle ∷ engines t.behind)
  before-it = rw t.were (engines-with t.ahead t.vehicle t.behind t.change.engine)

  after-it : engines (records w S) ≡ engines t.ahead ++ (t.found ∷ engines t.behind)
  after-it = rw t.are (engines-with t.ahead t.found t.behind (found-kind t.change))

  vehicle-is : get_or (engines (records w b)) (n - 1) [] ≡ t.vehicle
  vehicle-is = rw before-it (get_or_at (engines t.ahead) t.vehicle (engines t.behind) [] (n - 1) t.place)

  found-is : get_or (engines (records w S)) (n - 1) [] ≡ t.found
  found-is = rw after-it (get_or_at (engines t.ahead) t.found (engines t.behind) [] (n - 1) t.place)

  engine-changed : engines (records w S) ≡ set (engines (records w b)) (n - 1) t.found
  engine-changed = rw (after-it, before-it) (sym (set_at (engines t.ahead) t.vehicle (engines t.behind) t.found (n - 1) t.place))

  heading-same : heading (records w S) ≡ heading (records w b)
  unfolding heading
  heading-same =
      rw (
        t.are,
        t.were,
        heading-append t.ahead (t.found ∷ t.behind),
        heading-append t.ahead (t.vehicle ∷ t.behind),
        found-kind t.change,
        t.change.engine,
      ) refl

  one_known : length (pendings w b) ≡ suc (length (pendings w S))
  one_known =
      let us = engines t.ahead in
      let ws = engines t.behind in
      rw (before-it, after-it, those-with waits us t.vehicle ws (found-pending t.change))
      (rw (those-without waits us t.found ws (found-known t.change), those-append waits us ws)
      (omega (arith, length-append (those waits us) (t.vehicle ∷ those waits ws), length-append (those waits us) (those waits ws))))

-- ---- of the bytes

module _ (w : ℕ) (b : List ℕ) (n x : ℕ) (e : enter w b n x ≡ accepted) where
  -- the engine's record has the finding for its cause, and every other byte of it stays: its kind, byte 1 and each measurement
  pub cause-entered : cause (get_or (engines (records w (entered w b n x))) (n - 1) []) ≡ x
  cause-entered = let t = entry w b n x e in rw (found-is t) t.knows

  pub vehicle-stays : (k : ℕ) → (k ≡ 2 → ⊥) → (k ≡ 3 → ⊥)
      → byte (get_or (engines (records w (entered w b n x))) (n - 1) []) k ≡ byte (get_or (engines (records w b)) (n - 1) []) k
  vehicle-stays k c d = let t = entry w b n x e in rw (found-is t, vehicle-is t) (t.change.rest k c d)

  -- every other engine's record stays as it is, and so does every record before the first engine
  pub others-stay : (k : ℕ) → (k ≡ n - 1 → ⊥) → get_or (engines (records w (entered w b n x))) k [] ≡ get_or (engines (records w b)) k []
  others-stay k d = let t = entry w b n x e in rw (engine-changed t) (get_or-set_other (engines (records w b)) (n - 1) k t.found [] d)

  pub heading-stays : heading (records w (entered w b n x)) ≡ heading (records w b)
  heading-stays = heading-same (entry w b n x e)

  -- every byte of the sheet but the two stays, and its length
  pub bytes-stay : (k : ℕ) → (k ≡ cause_place w b n → ⊥) → (k ≡ cause_place w b n + 1 → ⊥) → byte (entered w b n x) k ≡ byte b k
  bytes-stay k c d = rw (changes w b n x e) (put_other (cause_place w b n) x b k c d)

  pub length-stays : length (entered w b n x) ≡ length b
  length-stays = rw (changes w b n x e) (length-put (cause_place w b n) x b)

  -- there is one pending vehicle fewer
  pub one_fewer : length (pendings w b) ≡ suc (length (pendings w (entered w b n x)))
  one_fewer = one_known (entry w b n x e)

  -- so with one the sheet after the finding is not held
  pub last-finding : (q : ℕ) → length (pendings w b) ≡ 1 → Held w q (entered w b n x) → ⊥
  last-finding q o h =
      let es = engines (records w (entered w b n x)) in
      omega (arith, one_fewer, leb-true 1 (length (those waits es)) (sym (any-those waits es) ∙ held-pending w q (entered w b n x) h))
