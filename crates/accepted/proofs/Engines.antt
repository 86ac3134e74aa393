-- The records of an accepted sheet are its heading, then its engines, then its stop. The heading is its pollutants, at most one small
-- engine, and behind it at most one record of run-in values.
use Rattle.arithmetic.proofs.Basics.{ℕ, zero, suc, ◌+◌, ◌-◌, ◌≤◌, ◌<◌, arith, ◌≡◌, refl, sym, ap, ◌∙◌, ⊎_elim, true, false, not, cond, List, [], ◌∷◌, ◌++◌, append-nil, eqb, length, get_or, length-append, get_or-append}
use Rattle.arithmetic.proofs.Basics.{get_or-append-add, eqb-true, never, by-test, lt-or-ge, any_last}
use Rattle.rules.specs.Sheet.{Record, pollutant_kind, engine_kind, stop_kind, small_engine_kind, run_in_kind, kind, of_kind, heading, engines, run_ins}
use Rattle.accepted.proofs.Faultless.{Clean, clean-append, faultless, by_kind, is_other, is_measured, heading-append, of_kind-none, placed-so}
use Rattle.accepted.proofs.Faultless.{no-pollutants, no-small-engines, no-run-ins, no-heading, nothing-after}

pub layout : (w : ℕ) (before rs : List Record) → Clean w before rs → rs ≡ heading rs ++ (of_kind engine_kind rs ++ of_kind stop_kind rs)
unfolding heading of_kind
layout w before [] c = refl
layout w before (r ∷ rs) c =
    let rest = layout w (before ++ (r ∷ [])) rs c.1 in
    by_kind (kind r) (λ k. rw k (ap (λ (l : List Record). r ∷ l) rest))
    (λ k.
    let z : heading rs ≡ [] = no-heading w before r rs (rw k refl) c.1 in
    rw (k, z) (ap (λ (l : List Record). r ∷ l) (rw z at rest)))
    (λ k.
    let z : rs ≡ [] = nothing-after w (before ++ (r ∷ [])) rs (any_last (λ b. eqb (kind b) stop_kind) before r (rw k refl)) c.1 in
    rw (k, z) refl)
    (λ k. rw k (ap (λ (l : List Record). r ∷ l) rest)) (λ k. rw k (ap (λ (l : List Record). r ∷ l) rest))
    (λ n o. never (sym (ap not o) ∙ (faultless w before r c.0).kinds))

-- the parts of the heading, in their order
pub heading-parts : (w : ℕ) (before rs : List Record) → Clean w before rs
    → heading rs ≡ of_kind pollutant_kind rs ++ (of_kind small_engine_kind rs ++ run_ins rs)
unfolding heading of_kind
heading-parts w before [] c = refl
heading-parts w before (r ∷ rs) c =
    let rest = heading-parts w (before ++ (r ∷ [])) rs c.1 in
    let no_more : is_other r ≡ true → of_kind pollutant_kind rs ≡ [] = λ o. no-pollutants w (before ++ (r ∷ [])) rs (any_last is_other before r o) c.1 in
    by_kind (kind r) (λ k. rw k (ap (λ (l : List Record). r ∷ l) rest)) (λ k. rw k rest) (λ k. rw k rest)
    (λ k. let z = no_more (rw k refl) in rw (k, z) (ap (λ (l : List Record). r ∷ l) (rw z at rest)))
    (λ k.
    let m : is_measured r ≡ true = rw k refl in
    let z = no_more (rw k refl) in
    let h = no-heading w before r rs m c.1 in
    let v = no-run-ins w (before ++ (r ∷ [])) rs (any_last is_measured before r m) c.1 in
    let s : of_kind small_engine_kind rs ≡ [] = sym (rw (z, h, v, append-nil) at rest) in
    rw (k, z, h, v, s) refl)
    (λ n o. never (sym (ap not o) ∙ (faultless w before r c.0).kinds))

-- a kind behind whose records there is no other of it
one_of : (k w : ℕ) → ((before : List Record) (r : Record) (rs : List Record) → kind r ≡ k → Clean w (before ++ (r ∷ [])) rs → of_kind k rs ≡ [])
    → (before rs : List Record) → Clean w before rs → length (of_kind k rs) ≤ 1
unfolding of_kind
one_of k w h before [] c = omega arith
one_of k w h before (r ∷ rs) c =
    by-test (λ t. length (cond t (r ∷ of_kind k rs) (of_kind k rs)) ≤ 1) (eqb (kind r) k)
    (λ e. rw (h before r rs (eqb-true (kind r) k e) c.1) (omega arith)) (λ e. one_of k w h (before ++ (r ∷ [])) rs c.1)

pub one-small-engine : (w : ℕ) (before rs : List Record) → Clean w before rs → length (of_kind small_engine_kind rs) ≤ 1
one-small-engine w =
    one_of small_engine_kind w (λ before r rs k c. no-small-engines w (before ++ (r ∷ [])) rs (any_last (λ b. eqb (kind b) small_engine_kind) before r (rw k refl)) c)

pub one-run-in : (w : ℕ) (before rs : List Record) → Clean w before rs → length (run_ins rs) ≤ 1
one-run-in w = one_of run_in_kind w (λ before r rs k c. no-run-ins w (before ++ (r ∷ [])) rs (any_last is_measured before r (rw k refl)) c)

-- engine j, from 0, is the record behind the heading and j engines
pub engine-at : (w : ℕ) (rs : List Record) → Clean w [] rs → (j : ℕ) → j < length (engines rs)
    → get_or (engines rs) j [] ≡ get_or rs (length (heading rs) + j) []
engine-at w rs c j h =
    sym (ap (λ (l : List Record). get_or l (length (heading rs) + j) []) (layout w [] rs c)
    ∙ get_or-append-add (heading rs) (of_kind engine_kind rs ++ of_kind stop_kind rs) j []
    ∙ get_or-append (of_kind engine_kind rs) (of_kind stop_kind rs) [] j h)

-- and so many records there are
pub counts : (w : ℕ) (rs : List Record) → Clean w [] rs → length rs ≡ length (heading rs) + (length (engines rs) + length (of_kind stop_kind rs))
counts w rs c = ap length (layout w [] rs c) ∙ simp length-append

-- an engine's record stands behind the heading and the engines before it
pub engine-behind : (w : ℕ) (us : List Record) (v : Record) (ws : List Record) → kind v ≡ engine_kind → Clean w [] (us ++ (v ∷ ws))
    → length us ≡ length (heading (us ++ (v ∷ ws))) + length (engines us)
unfolding heading
engine-behind w us v ws k c =
    let a = clean-append w [] us (v ∷ ws) c in
    let s : of_kind stop_kind us ≡ [] = of_kind-none stop_kind us (placed-so us v (faultless w us v a.1.0).placed).1 in
    let h : heading (us ++ (v ∷ ws)) ≡ heading us =
    heading-append us (v ∷ ws) ∙ rw (k, no-heading w us v ws (rw k refl) a.1.1) (append-nil (heading us)) in
    rw h (omega (arith, counts w us a.0, ap length s))

-- ---- the records of a kind

kind-first : (k : ℕ) (r : Record) (rs : List Record) → kind r ≡ k → ((i : ℕ) → i < length rs → kind (get_or rs i []) ≡ k)
    → (i : ℕ) → i < length (r ∷ rs) → kind (get_or (r ∷ rs) i []) ≡ k
kind-first k r rs e h zero l = e
kind-first k r rs e h (suc i) l = h i (omega arith)

pub kind-in : (k : ℕ) (rs : List Record) (i : ℕ) → i < length (of_kind k rs) → kind (get_or (of_kind k rs) i []) ≡ k
unfolding of_kind
kind-in k [] = λ i h. absurd (omega arith)
kind-in k (r ∷ rs) =
    by-test (λ t. (i : ℕ) → i < length (cond t (r ∷ of_kind k rs) (of_kind k rs)) → kind (get_or (cond t (r ∷ of_kind k rs) (of_kind k rs)) i []) ≡ k)
    (eqb (kind r) k) (λ e. kind-first k r (of_kind k rs) (eqb-true (kind r) k e) (kind-in k rs)) (λ e. kind-in k rs)

-- behind the heading there is an engine, a stop, or nothing
pub stop-behind : (w : ℕ) (rs : List Record) → Clean w [] rs → length (engines rs) ≡ 0 → length (heading rs) < length rs
    → kind (get_or rs (length (heading rs)) []) ≡ stop_kind
stop-behind w rs c e h =
    let es = engines rs in
    let ss = of_kind stop_kind rs in
    let k : length (heading rs) ≡ length (heading rs) + (length es + 0) = omega arith in
    let i : get_or rs (length (heading rs) + (length es + 0)) [] ≡ get_or ss 0 [] =
    ap (λ (l : List Record). get_or l (length (heading rs) + (length es + 0)) []) (layout w [] rs c)
    ∙ get_or-append-add (heading rs) (es ++ ss) (length es + 0) [] ∙ get_or-append-add es ss 0 [] in
    ap kind (ap (λ (n : ℕ). get_or rs n []) k ∙ i) ∙ kind-in stop_kind rs 0 (omega (arith, counts w rs c))

-- the run-in values are the last record of the heading, where it is of their kind
pub run-in-last : (w : ℕ) (rs : List Record) → Clean w [] rs → 1 ≤ length (heading rs) → (l : Record) → l ≡ get_or rs (length (heading rs) - 1) []
    → run_ins rs ≡ cond (eqb (kind l) run_in_kind) (l ∷ []) []
run-in-last w rs c h l e = cases (run_ins rs) refl
  where
    ps : List Record
    ps = of_kind pollutant_kind rs

    ss : List Record
    ss = of_kind small_engine_kind rs

    in-heading : (i : ℕ) → i < length (heading rs) → get_or rs i [] ≡ get_or (ps ++ (ss ++ run_ins rs)) i []
    in-heading i k =
        ap (λ (l : List Record). get_or l i []) (layout w [] rs c) ∙ get_or-append (heading rs) (of_kind engine_kind rs ++ of_kind stop_kind rs) [] i k
        ∙ ap (λ (l : List Record). get_or l i []) (heading-parts w [] rs c)

    counted : length (heading rs) ≡ length ps + (length ss + length (run_ins rs))
    counted = ap length (heading-parts w [] rs c) ∙ simp length-append

    -- record i of the heading, behind the pollutants and j others
    at : (i j : ℕ) → i < length (heading rs) → length ps + j ≡ i → get_or rs i [] ≡ get_or (ss ++ run_ins rs) j []
    at i j k f = in-heading i k ∙ (rw (← f) (get_or-append-add ps (ss ++ run_ins rs) j []))

    other : (k : ℕ) → eqb k run_in_kind ≡ false → kind l ≡ k → [] ≡ cond (eqb (kind l) run_in_kind) (l ∷ []) []
    other k n f = rw (f, n) refl

    cases : (vs : List Record) → run_ins rs ≡ vs → vs ≡ cond (eqb (kind l) run_in_kind) (l ∷ []) []
    cases [] v =
        let n : length (heading rs) ≡ length ps + length ss = omega (arith, counted, ap length v) in
        ⊎_elim
        (λ k.
        let j : ℕ = length ss - 1 in
        let f : l ≡ get_or ss j [] = e ∙ at (length (heading rs) - 1) j (omega arith) (omega arith) ∙ rw (v, append-nil) refl in
        other small_engine_kind refl (ap kind f ∙ kind-in small_engine_kind rs j (omega arith)))
        (λ k.
        let j : ℕ = length (heading rs) - 1 in
        let f : l ≡ get_or ps j [] = e ∙ in-heading j (omega arith) ∙ get_or-append ps (ss ++ run_ins rs) [] j (omega arith) in
        other pollutant_kind refl (ap kind f ∙ kind-in pollutant_kind rs j (omega arith)))
        (lt-or-ge 0 (length ss))
    cases (a ∷ []) v =
        let n : length (heading rs) ≡ length ps + (length ss + 1) = omega (arith, counted, ap length v) in
        let f : l ≡ a =
        e ∙ at (length (heading rs) - 1) (length ss + 0) (omega arith) (omega arith) ∙ (get_or-append-add ss (run_ins rs) 0 [] ∙ rw v refl) in
        let k : kind a ≡ run_in_kind = rw v at (kind-in run_in_kind rs 0 (omega (arith, ap length v))) in
        rw (f, k) refl
    cases (a ∷ o ∷ vs) v = absurd (omega (arith, one-run-in w [] rs c, ap length v))
