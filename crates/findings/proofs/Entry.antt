-- The bytes and the records of a sheet before a call that enters a finding and after it: one vehicle's record is replaced.
use Rattle.arithmetic.proofs.Basics.{ℕ, suc, ◌+◌, ◌-◌, ◌*◌, ◌/◌, ◌%◌, ◌≤◌, ◌<◌, div-add-mod, arith, ◌≡◌, refl, sym, ap, ◌∙◌, ⊎_elim, true, false, not, List, [], ◌∷◌}
use Rattle.arithmetic.proofs.Basics.{◌++◌, eqb, length, get_or, take, drop, set, length-set, length-take-le, get_or-eq_default, get_or-set_same, get_or-set_other, set-set}
use Rattle.arithmetic.proofs.Basics.{set_split, split_at, eqb-true, eq-eqb, ne_eqb, not-false, or-false, in-range, lt-or-ge, never, those-with}
use Rattle.rules.specs.Tools.{within, byte, two}
use Rattle.rules.specs.Sheet.{Record, size, engine_kind, records, kind, cause, pending, is_pending, of_kind, engines, heading}
use Rattle.rules.specs.Refusals.{accepted, greatest_cause, check}
use Rattle.rules.specs.Findings.{no_pending, enter, cause_place, put_two, entered}
use Rattle.accepted.proofs.Records.{length-records, length-record, records-set}
use Rattle.accepted.proofs.Faultless.{Clean, sound, cond-accepted, then-accepted}
use Rattle.accepted.proofs.Engines.{engine-at, counts, engine-behind, kind-in}

-- ---- a number in two bytes

module _ (i x : ℕ) (b : List ℕ) where
  pub put_other : (k : ℕ) → (k ≡ i → ⊥) → (k ≡ i + 1 → ⊥) → byte (put_two i x b) k ≡ byte b k
  unfolding put_two
  put_other k d e = get_or-set_other (set b i (x % 256)) (i + 1) k (x / 256) 0 e ∙ get_or-set_other b i k (x % 256) 0 d

  put-two : i + 1 < length b → two (put_two i x b) i ≡ x
  unfolding put_two
  put-two h =
      rw (
        get_or-set_other (set b i (x % 256)) (i + 1) i (x / 256) 0 (λ e. omega arith),
        get_or-set_same b i (x % 256) 0 (omega arith),
        get_or-set_same (set b i (x % 256)) (i + 1) (x / 256) 0 (rw length-set h),
      )
      (let e = div-add-mod x 256 in omega arith)

  pub length-put : length (put_two i x b) ≡ length b
  unfolding put_two
  length-put = length-set (set b i (x % 256)) (i + 1) (x / 256) ∙ length-set b i (x % 256)

-- in record j: the records with that one changed
records-put : (w j x : ℕ) (b : List ℕ) → j < length b / size w
    → records w (put_two (size w * j + 2) x b) ≡ set (records w b) j (put_two 2 x (get_or (records w b) j []))
unfolding put_two
records-put w j x b h =
    let r : Record = set (get_or (records w b) j []) 2 (x % 256) in
    let one : records w (set b (size w * j + 2) (x % 256)) ≡ set (records w b) j r = records-set w b j 2 (x % 256) h (omega arith) in
    let i : size w * j + 2 + 1 ≡ size w * j + 3 = omega arith in
    let l : j < length (records w b) = rw length-records h in
    rw (i, records-set w (set b (size w * j + 2) (x % 256)) j 3 (x / 256) (rw length-set h) (omega arith), one, get_or-set_same (records w b) j r [] l)
    (set-set (records w b) j r (set r 3 (x / 256)))

-- ---- the records before the call and after it

-- a vehicle's record whose finding is pending, and the one in its place: its cause is known, and every other byte is the same
pub record Found (vehicle found : Record) : Type 0 where
  pub engine : kind vehicle ≡ engine_kind
  pub sought : cause vehicle ≡ pending
  pub least : 1 ≤ cause found
  pub most : cause found ≤ greatest_cause
  pub rest : (k : ℕ) → (k ≡ 2 → ⊥) → (k ≡ 3 → ⊥) → byte found k ≡ byte vehicle k

pub found-kind : {v f : Record} → Found v f → kind f ≡ engine_kind
unfolding kind
found-kind c = c.rest 0 (λ z. omega arith) (λ z. omega arith) ∙ c.engine

pub found-pending : {v f : Record} → Found v f → is_pending (cause v) ≡ true
found-pending {v} c = eq-eqb (cause v) pending c.sought

pub found-known : {v f : Record} → Found v f → is_pending (cause f) ≡ false
found-known {v} {f} c = let m = c.most in ne_eqb (cause f) pending (λ z. omega arith)

-- the engines of records with an engine's among them
pub engines-with : (us : List Record) (r : Record) (ws : List Record) → kind r ≡ engine_kind → engines (us ++ (r ∷ ws)) ≡ engines us ++ (r ∷ engines ws)
unfolding of_kind
engines-with us r ws k = those-with (λ a. eqb (kind a) engine_kind) us r ws (rw k refl)

-- S is the sheet b with the record of engine n replaced by one whose cause is x
pub record Entry (w n x : ℕ) (b S : List ℕ) : Type 0 where
  pub ahead : List Record
  pub vehicle : Record
  pub found : Record
  pub behind : List Record
  pub were : records w b ≡ ahead ++ (vehicle ∷ behind)
  pub are : records w S ≡ ahead ++ (found ∷ behind)
  pub place : length (engines ahead) ≡ n - 1
  pub change : Found vehicle found
  pub knows : cause found ≡ x

-- past the last engine there is none that is pending
is-there : (es : List Record) (i : ℕ) → is_pending (cause (get_or es i [])) ≡ true → i < length es
unfolding cause
is-there es i e =
    ⊎_elim (λ h. h) (λ h. never (sym e ∙ ap (λ (r : Record). is_pending (cause r)) (get_or-eq_default es [] h))) (lt-or-ge i (length es))

module _ (w : ℕ) (b : List ℕ) (n x : ℕ) (e : enter w b n x ≡ accepted) where
  pub changes : entered w b n x ≡ put_two (cause_place w b n) x b
  unfolding entered
  changes = rw e refl

  pub enter-checked : check w b ≡ accepted
  unfolding enter
  enter-checked = (then-accepted (check w b) _ e).0

  pub entry : Entry w n x b (entered w b n x)
  unfolding enter no_pending cause
  entry =
      let rs : List Record = records w b in
      let i : ℕ = n - 1 in
      let j : ℕ = length (heading rs) + i in
      let u = cond-accepted 23 (no_pending w b n) _ (then-accepted (check w b) _ e).1 in
      let y = in-range 1 greatest_cause x (cond-accepted 24 (not (within 1 greatest_cause x)) accepted u.1).0 in
      let c : Clean w [] rs = (sound w b enter-checked).clean in
      let p : is_pending (cause (get_or (engines rs) i [])) ≡ true = not-false _ (or-false (eqb n 0) _ u.0).1 in
      let h : i < length (engines rs) = is-there (engines rs) i p in
      let a : get_or (engines rs) i [] ≡ get_or rs j [] = engine-at w rs c i h in
      let l : j < length rs = omega (arith, counts w rs c) in
      let m : j < length b / size w = omega (arith, length-records w b) in
      let v : Record = get_or rs j [] in
      let f : Record = put_two 2 x v in
      let k : kind v ≡ engine_kind = rw a at (kind-in engine_kind rs i h) in
      let x-there : cause f ≡ x = put-two 2 x v (omega (arith, length-record w b j m)) in
      let were : rs ≡ take j rs ++ (v ∷ drop (suc j) rs) = split_at rs j [] l in
      let stands = engine-behind w (take j rs) v (drop (suc j) rs) k (rw were at c) in
      record {
        ahead = take j rs;
        vehicle = v;
        found = f;
        behind = drop (suc j) rs;
        were = were;
        are = ap (records w) changes ∙ records-put w j x b m ∙ set_split rs j f l;
        place = omega (arith, stands, length-take-le j rs (omega arith), ap (λ (l : List Record). length (heading l)) were);
        change = record {
          engine = k;
          sought = eqb-true (cause v) pending (rw a at p);
          least = rw x-there y.0;
          most = rw x-there y.1;
          rest = put_other 2 x v;
        };
        knows = x-there;
      }
