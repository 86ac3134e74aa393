-- Two series of the same pollutants under plan 1 or 3, the measurements of the second nowhere higher, nor what they are corrected by:
-- where the first passes, the second passes no later; where the second fails, the first fails no later.
use Rattle.arithmetic.proofs.Basics.{ℕ, zero, suc, ◌+◌, ◌-◌, ◌≤◌, arith, ◌≡◌, refl, sym, ◌∙◌, Bool, true, false, cond, List, [], ◌∷◌, map, ltb, eqb, take}
use Rattle.arithmetic.proofs.Basics.{eq-eqb, never, or_right, by-test}
use Rattle.rules.specs.Sheet.{Record, Pollutant, measurement, declares}
use Rattle.rules.specs.Plans.{Plan, Row}
use Rattle.rules.specs.Series.{Decision, is_open, passed_at, failed_at, Standing, Series, ongoing, passed, failed}
use Rattle.rules.specs.Series.{referred, held, early, statistics, before_row, looked_at, correction, look, has_failed, has_passed, settle_by}
use Rattle.rules.specs.Series.{settle, row_by, walk, unlooked, after, Pair, pairs, judgement, answer}
use Rattle.rules.specs.Demands.{Says, SaysBy}
use Rattle.arithmetic.proofs.Pairs.{Pairs, none, more, pairs-take, pairs-map, any-follows, all-follows}
use Rattle.answers.proofs.Ranges.{DecidedAt, Made, after-made}
use Rattle.demands.proofs.Ended.{Ended, passed-ended, failed-ended, after-ended}
use Rattle.demands.proofs.Rows.{RowLe, best, even, worst, NotHigher, Lower, CorrectionLe, Falling, known-falls, attributes-fall, row-lower}

-- ---- one pollutant

-- its measurements, of records of the first sheet and the second's
abbrev pub MeasuredLe : (p : ℕ) → (es fs : List Record) → Type 0
MeasuredLe p es fs = Pairs (λ (r s : Record). NotHigher (measurement r p) (measurement s p)) es fs

-- the first sheet's run-in values vs and engines es, the second's us and fs: the engines' measurements, and what they are corrected by
pub record LowerAt (vs us es fs : List Record) (p : ℕ) : Type 0 where
  pub measured : MeasuredLe p es fs
  pub correcting : (n : ℕ) → CorrectionLe (correction us (take n fs) p) (correction vs (take n es) p)

lower-measurements : {vs us es fs : List Record} (p n : ℕ) → LowerAt vs us es fs p
    → Lower (map (λ r. measurement r p) (take n es)) (map (λ r. measurement r p) (take n fs))
lower-measurements p n h = pairs-map (λ r. measurement r p) (λ r. measurement r p) (λ r s l. l) (pairs-take n h.measured)

-- its decision: a pass, then open, then a fail
data DecisionLe : (second first : Decision) → Type 0 where
  passes : {n : ℕ} {d : Decision} → DecisionLe (passed_at n) d
  opens : DecisionLe is_open is_open
  fails : {n : ℕ} {d : Decision} → DecisionLe d (failed_at n)

looked-lower : {r₂ r₁ : Row} {d₂ d₁ : Decision} (n : ℕ) → RowLe r₂ r₁ → DecisionLe d₂ d₁ → DecisionLe (looked_at n r₂ d₂) (looked_at n r₁ d₁)
looked-lower n best opens = passes
looked-lower n even opens = opens
looked-lower n worst opens = fails
looked-lower n r passes = passes
looked-lower n r fails = fails

failed-too : {second first : Decision} → DecisionLe second first → has_failed second ≡ true → has_failed first ≡ true
failed-too passes e = never (sym e)
failed-too opens e = e
failed-too fails e = refl

passed-too : {second first : Decision} → DecisionLe second first → has_passed first ≡ true → has_passed second ≡ true
passed-too passes e = refl
passed-too opens e = e
passed-too fails e = never (sym e)

-- ---- all of them, with what is known of each one's measurements

record StandingLe (Known : (p : ℕ) → Type 0) (second first : Standing) : Type 0 where
  same : second.pollutant ≡ first.pollutant
  lower : Known first.pollutant.number
  order : DecisionLe second.decision first.decision

data SeriesLe (Known : (p : ℕ) → Type 0) : (second first : Series) → Type 0 where
  ahead : {k : ℕ} {ss : List Standing} {s : Series} → SeriesLe Known (passed k ss) s
  abreast : {ss ts : List Standing} → Pairs (StandingLe Known) ss ts → SeriesLe Known (ongoing ss) (ongoing ts)
  behind : {k grounds : ℕ} {ts : List Standing} {s : Series} → SeriesLe Known s (failed k grounds ts)

settle-lower : {Known : (p : ℕ) → Type 0} {ss ts : List Standing} (n : ℕ) → Pairs (StandingLe Known) ss ts → SeriesLe Known (settle n ss) (settle n ts)
unfolding settle
settle-lower {Known} {ss} {ts} n h =
    cases _ _ _ _
    (any-follows (λ s. has_failed s.decision) (λ t. has_failed t.decision) (λ s t l. failed-too l.order) h)
    (all-follows (λ t. has_passed t.decision) (λ s. has_passed s.decision) (λ s t l. passed-too l.order) h)
  where
    cases : (f₂ f₁ p₂ p₁ : Bool) → (f₂ ≡ true → f₁ ≡ true) → (p₁ ≡ true → p₂ ≡ true)
        → SeriesLe Known (settle_by f₂ p₂ n ss) (settle_by f₁ p₁ n ts)
    cases f₂ true p₂ p₁ f p = behind
    cases true false p₂ p₁ f p = never (sym (f refl))
    cases false false true p₁ f p = ahead
    cases false false false true f p = never (sym (p refl))
    cases false false false false f p = abreast h

-- ---- row by row

-- plans 1 and 3 have nothing before the statistics
before-plain : {plan : Plan} → Falling plan → (ps : List Pollutant) (n : ℕ) (first : List Record)
    → before_row plan ps n first ≡ cond (ltb n 3) early statistics
unfolding before_row
before-plain known-falls ps n first = refl
before-plain attributes-fall ps n first = refl

module _ (q : ℕ) (plan : Plan) (falling : Falling plan) (ps : List Pollutant) (vs us es fs : List Record) where
  abbrev Known : (p : ℕ) → Type 0
  Known = LowerAt vs us es fs

  look-lower : (n : ℕ) (s t : Standing) → StandingLe Known s t → StandingLe Known (look plan us q n (take n fs) s) (look plan vs q n (take n es) t)
  unfolding look
  look-lower n s t h =
      let p = t.pollutant in
      record {
        same = h.same;
        lower = h.lower;
        order = rw h.same
            (looked-lower n
            (row-lower q n p.limit p.deviation (correction us (take n fs) p.number) (correction vs (take n es) p.number) falling
            (h.lower.correcting n) (lower-measurements p.number n h.lower))
            h.order);
      }

  walk-lower : {second first : Series} (n : ℕ) → SeriesLe Known second first
      → SeriesLe Known (walk plan ps us q n (take n fs) second) (walk plan ps vs q n (take n es) first)
  walk-lower n ahead = ahead
  walk-lower n behind = behind
  walk-lower n (abreast {ss} {ts} h) =
      rw (before-plain falling ps n (take n fs), before-plain falling ps n (take n es))
      (by-test
      (λ b. SeriesLe Known (row_by (cond b early statistics) plan us q n (take n fs) ss) (row_by (cond b early statistics) plan vs q n (take n es) ts))
      (ltb n 3) (λ e. abreast h)
      (λ e. settle-lower n (pairs-map (look plan us q n (take n fs)) (look plan vs q n (take n es)) (look-lower n) h)))

unlooked-lower : {Known : (p : ℕ) → Type 0} (ps : List Pollutant) → ((p : ℕ) → declares ps p ≡ true → Known p)
    → Pairs (StandingLe Known) (map unlooked ps) (map unlooked ps)
unfolding unlooked declares
unlooked-lower [] h = none
unlooked-lower (c ∷ ps) h =
    more (record { same = refl; lower = h c.number (rw (eq-eqb c.number c.number refl) refl); order = opens })
    (unlooked-lower ps (λ p d. h p (or_right (eqb c.number p) (declares ps p) d)))

-- ---- the answers, "by a row or by a stop"

verdicts : {v n grounds v' n' grounds' : ℕ} {ps ps' : List Pair} → judgement v n grounds ps ≡ judgement v' n' grounds' ps' → (v ≡ v' → ⊥) → ⊥
verdicts e d = d (cc)

-- what has ended after m engines has ended by then, and stays
ended_by_lem : (plan : Plan) (ps : List Pollutant) (vs : List Record) (q : ℕ) (es : List Record) (m n : ℕ) {s : Series}
    → m ≤ n → after plan ps vs q es m ≡ s → Ended s → Made plan vs q ps es m s × (after plan ps vs q es n ≡ s)
ended_by_lem plan ps vs q es m n l e h =
    let k : n ≡ n - m + m = omega arith in
    (rw e at (after-made plan vs q ps es m), rw k (after-ended plan ps vs q es (n - m) m (rw e h) ∙ e))

-- where the first has passed the second has, and where the second has failed the first has
passed-second : {Known : (p : ℕ) → Type 0} {s : Series} {n : ℕ} {ts : List Standing} → SeriesLe Known s (passed n ts)
    → (k : ℕ) × (ss : List Standing) × (s ≡ passed k ss)
passed-second (ahead {k} {ss}) = (k, ss, refl)

failed-first : {Known : (p : ℕ) → Type 0} {t : Series} {n grounds : ℕ} {ss : List Standing} → SeriesLe Known (failed n grounds ss) t
    → (k : ℕ) × (grounds' : ℕ) × (ts : List Standing) × (t ≡ failed k grounds' ts)
failed-first (behind {k} {grounds} {ts}) = (k, grounds, ts, refl)

-- where a stop fails the second, it fails the first too, if that has not failed
stopped-first : {Known : (p : ℕ) → Type 0} {t : Series} {ss : List Standing} (w n m : ℕ) → m ≤ n → DecidedAt m t → SeriesLe Known (ongoing ss) t
    → SaysBy (answer w true n t) 2 n
stopped-first w n m l d (abreast {ss} {ts} h) = (n, omega arith, (3, pairs w ts, refl))
stopped-first w n m l d (behind {k} {grounds} {ts}) = (k, omega (arith, d), (grounds, pairs w ts, refl))

module _ {plan : Plan} {vs us es fs : List Record} (w q : ℕ) (falling : Falling plan) (ps : List Pollutant)
    (lower : (p : ℕ) → declares ps p ≡ true → LowerAt vs us es fs p) where
  after_lower : (n : ℕ) → SeriesLe (LowerAt vs us es fs) (after plan ps us q fs n) (after plan ps vs q es n)
  unfolding after
  after_lower zero = abreast (unlooked-lower ps lower)
  after_lower (suc n) = walk-lower q plan falling ps vs us es fs (suc n) (after_lower n)

  pub passes-by : (stop : Bool) (n m : ℕ) → Says (answer w stop n (after plan ps vs q es n)) 1 m → SaysBy (answer w stop n (after plan ps us q fs n)) 1 m
  passes-by stop n m s = by stop (after plan ps vs q es n) refl s.2
    where
      by : (stop : Bool) (t : Series) → after plan ps vs q es n ≡ t → answer w stop n t ≡ judgement 1 m s.0 s.1
          → SaysBy (answer w stop n (after plan ps us q fs n)) 1 m
      by true (ongoing ts) e a = absurd (verdicts a (λ z. omega arith))
      by false (ongoing ts) e a = absurd (verdicts a (λ z. omega arith))
      by stop (failed o grounds ts) e a = absurd (verdicts a (λ z. omega arith))
      by stop (referred o ts) e a = absurd (verdicts a (λ z. omega arith))
      by stop (held o ts) e a = absurd (verdicts a (λ z. omega arith))
      by stop (passed o ts) e a =
          let made = rw e at (after-made plan vs q ps es n) in
          let p = passed-second (rw made.3 at (after_lower made.0)) in
          let b = ended_by_lem plan ps us q fs made.0 n made.1 p.2 (passed-ended p.0 p.1) in
          let i : o ≡ m = cc in
          rw b.1 (p.0, omega (arith, b.0.1, b.0.2, made.2), (1, pairs w p.1, refl))

  pub fails_by_lem : (stop : Bool) (n m : ℕ) → Says (answer w stop n (after plan ps us q fs n)) 2 m → SaysBy (answer w stop n (after plan ps vs q es n)) 2 m
  fails_by_lem stop n m s = by stop (after plan ps us q fs n) refl s.2
    where
      by : (stop : Bool) (t : Series) → after plan ps us q fs n ≡ t → answer w stop n t ≡ judgement 2 m s.0 s.1
          → SaysBy (answer w stop n (after plan ps vs q es n)) 2 m
      by true (ongoing ss) e a =
          let i : n ≡ m = cc in
          let made = after-made plan vs q ps es n in
          let r = stopped-first w n made.0 made.1 made.2 (rw e at (after_lower n)) in
          (r.0, omega (arith, r.1), r.2)
      by false (ongoing ts) e a = absurd (verdicts a (λ z. omega arith))
      by stop (passed o ts) e a = absurd (verdicts a (λ z. omega arith))
      by stop (referred o ts) e a = absurd (verdicts a (λ z. omega arith))
      by stop (held o ts) e a = absurd (verdicts a (λ z. omega arith))
      by stop (failed o grounds ts) e a =
          let made = rw e at (after-made plan us q ps fs n) in
          let f = failed-first (rw made.3 at (after_lower made.0)) in
          let b = ended_by_lem plan ps vs q es made.0 n made.1 f.3 (failed-ended f.0 f.1 f.2) in
          let i : o ≡ m = cc in
          rw b.1 (f.0, omega (arith, b.0.1, b.0.2, made.2), (f.1, pairs w f.2, refl))
