-- Records that declare no pollutant above w: judging them at w + k pollutants gives the answer at w with k open pairs more, and its report
-- is the report at w with zeros behind.
use Rattle.arithmetic.proofs.Basics.{ℕ, zero, suc, ◌+◌, ◌*◌, ◌<◌, add-zero, add-suc, add-one, arith, ◌≡◌, refl, sym, ap, ap₂, ◌∙◌, Bool, true, false, ◌&&◌, ◌||◌}
use Rattle.arithmetic.proofs.Basics.{cond, List, [], ◌∷◌, ◌++◌, map, map-map, append-nil, append_assoc, eqb, ltb, length, take, replicate, replicate-append-replicate}
use Rattle.arithmetic.proofs.Basics.{ne_eqb, ltb-false, le-ltb, or-false, or_same, by-test, any_append, map-append}
use Rattle.rules.specs.Tools.{any, all}
use Rattle.rules.specs.Sheet.{Record, Pollutant, records, numbers, pollutant_kind, kind, number, of_kind, engines, run_ins, plan_number, pollutant, declared}
use Rattle.rules.specs.Sheet.{declares, stopped}
use Rattle.rules.specs.Plans.{Plan, plan_of}
use Rattle.rules.specs.Series.{Standing, Series, ongoing, passed, failed, referred, held, Before, early, equal_cause, finding_pending, referral, left_open, statistics, before_row, look}
use Rattle.rules.specs.Series.{settle, settle_by, has_failed, has_passed, unlooked, row_by, walk, after, Pair, pair, is_open, pair_of, decision_of, pairs, judgement, answer, judge_records}
use Rattle.rules.specs.Refusals.{accepted, check}
use Rattle.rules.specs.Operations.{pair_bytes, report_bytes}
use Rattle.rules.specs.Sizes.{open_pairs}
use Rattle.rules.specs.Converter.{widened_record, above}
use Rattle.accepted.proofs.Faultless.{Clean, sound}
use Rattle.accepted.proofs.ByNumber.{InOrder, declared-join, in_order}
use Rattle.answers.proofs.Answers.{series_of}

-- ---- pollutants none of which is above w

pub above-append : (w : ℕ) (rs ts : List Record) → above w (declared (rs ++ ts)) ≡ above w (declared rs) || above w (declared ts)
above-append w rs ts = ap (above w) (declared-join rs ts) ∙ any_append (λ c. ltb w c.number) (declared rs) (declared ts)

pub above-one : (w : ℕ) (r : Record) → above w (declared (r ∷ [])) ≡ eqb (kind r) pollutant_kind && ltb w (number r)
unfolding declared of_kind pollutant
above-one w r =
    by-test (λ t. above w (map pollutant (cond t (r ∷ []) [])) ≡ t && ltb w (number r)) (eqb (kind r) pollutant_kind)
    (λ e. or_same (ltb w (number r))) (λ e. refl)

-- a record more in front, and a record more behind
pub above-cons : (w : ℕ) (r : Record) (rs : List Record) → above w (declared (r ∷ rs)) ≡ false → (above w (declared (r ∷ [])) ≡ false) × (above w (declared rs) ≡ false)
above-cons w r rs e = or-false (above w (declared (r ∷ []))) (above w (declared rs)) (sym (above-append w (r ∷ []) rs) ∙ e)

pub above-snoc : (w : ℕ) (rs : List Record) (r : Record) → above w (declared rs) ≡ false → above w (declared (r ∷ [])) ≡ false
    → above w (declared (rs ++ (r ∷ []))) ≡ false
above-snoc w rs r e f = rw (above-append w rs (r ∷ []), e, f) refl

none_above : (w m : ℕ) (ps : List Pollutant) → InOrder w m ps → above w ps ≡ false
none_above w m [] h = refl
none_above w m (c ∷ ps) h = rw (le-ltb w c.number h.1) (none_above w c.number ps h.5)

-- an accepted sheet of w pollutants declares none above
pub clean-above : (w : ℕ) (rs : List Record) → Clean w [] rs → above w (declared rs) ≡ false
clean-above w rs c = none_above w _ (declared rs) (in_order w [] rs c)

pub own-above : (w : ℕ) (b : List ℕ) → check w b ≡ accepted → above w (declared (records w b)) ≡ false
own-above w b e = clean-above w (records w b) (sound w b e).clean

pub undeclared-above : (w : ℕ) (ps : List Pollutant) → above w ps ≡ false → (p : ℕ) → w < p → declares ps p ≡ false
unfolding declares
undeclared-above w [] e p h = refl
undeclared-above w (c ∷ ps) e p h =
    let t = or-false (ltb w c.number) (above w ps) e in
    let l = ltb-false w c.number t.0 in
    rw (ne_eqb c.number p (λ z. omega arith)) (undeclared-above w ps t.1 p h)

-- ---- the pollutants of a series are those declared

abbrev standings_of : Series → List Standing
standings_of (ongoing ss) = ss
standings_of (passed n ss) = ss
standings_of (failed n grounds ss) = ss
standings_of (referred n ss) = ss
standings_of (held n ss) = ss

abbrev pollutants_of : List Standing → List Pollutant
pollutants_of ss = map (λ s. s.pollutant) ss

settle-standings : (n : ℕ) (ss : List Standing) → standings_of (settle n ss) ≡ ss
unfolding settle
settle-standings n ss = cases (any (λ s. has_failed s.decision) ss) (all (λ s. has_passed s.decision) ss)
  where
    cases : (f p : Bool) → standings_of (settle_by f p n ss) ≡ ss
    cases true p = refl
    cases false true = refl
    cases false false = refl

module _ (plan : Plan) (vs : List Record) (q : ℕ) where
  look-pollutants : (n : ℕ) (first : List Record) (ss : List Standing) → pollutants_of (map (look plan vs q n first) ss) ≡ pollutants_of ss
  unfolding look
  look-pollutants n first ss = map-map (λ s. s.pollutant) (look plan vs q n first) ss

  row-pollutants : (b : Before) (n : ℕ) (first : List Record) (ss : List Standing) → pollutants_of (standings_of (row_by b plan vs q n first ss)) ≡ pollutants_of ss
  row-pollutants early n first ss = refl
  row-pollutants equal_cause n first ss = refl
  row-pollutants finding_pending n first ss = refl
  row-pollutants referral n first ss = refl
  row-pollutants left_open n first ss = refl
  row-pollutants statistics n first ss = ap pollutants_of (settle-standings n (map (look plan vs q n first) ss)) ∙ look-pollutants n first ss

  module _ (ps : List Pollutant) where
    walk-pollutants : (n : ℕ) (first : List Record) (s : Series) → pollutants_of (standings_of (walk plan ps vs q n first s)) ≡ pollutants_of (standings_of s)
    walk-pollutants n first (ongoing ss) = row-pollutants (before_row plan ps n first) n first ss
    walk-pollutants n first (passed m ss) = refl
    walk-pollutants n first (failed m grounds ss) = refl
    walk-pollutants n first (referred m ss) = refl
    walk-pollutants n first (held m ss) = refl

    unlooked-pollutants : (cs : List Pollutant) → pollutants_of (map unlooked cs) ≡ cs
    unfolding unlooked
    unlooked-pollutants [] = refl
    unlooked-pollutants (c ∷ cs) = rw (unlooked-pollutants cs) refl

    after-pollutants : (es : List Record) (n : ℕ) → pollutants_of (standings_of (after plan ps vs q es n)) ≡ ps
    unfolding after
    after-pollutants es zero = unlooked-pollutants ps
    after-pollutants es (suc n) = walk-pollutants (suc n) (take (suc n) es) (after plan ps vs q es n) ∙ after-pollutants es n

-- ---- judging

decision-undeclared : (p : ℕ) (ss : List Standing) → declares (pollutants_of ss) p ≡ false → decision_of p ss ≡ is_open
unfolding declares
decision-undeclared p [] e = refl
decision-undeclared p (s ∷ ss) e =
    let t = or-false (eqb s.pollutant.number p) (declares (pollutants_of ss) p) e in
    rw t.0 (decision-undeclared p ss t.1)

module _ (w : ℕ) where
  pairs-columns : (k : ℕ) (ss : List Standing) → above w (pollutants_of ss) ≡ false → pairs (w + k) ss ≡ pairs w ss ++ replicate k (pair 0 0)
  unfolding pairs
  pairs-columns zero ss a = rw (add-zero w) (sym (append-nil (pairs w ss)))
  pairs-columns (suc k) ss a =
      let f : ℕ → Pair = λ p. pair_of (decision_of p ss) in
      let o : f (suc (w + k)) ≡ pair 0 0 = ap pair_of (decision-undeclared (suc (w + k)) ss (undeclared-above w (pollutants_of ss) a (suc (w + k)) (omega arith))) in
      rw (add-suc w k)
      (map-append f (numbers (w + k)) (suc (w + k) ∷ [])
      ∙ ap₂ (λ (x : List Pair) (y : Pair). x ++ (y ∷ [])) (pairs-columns k ss a) o
      ∙ append_assoc (pairs w ss) (replicate k (pair 0 0)) (pair 0 0 ∷ [])
      ∙ ap (λ (x : List Pair). pairs w ss ++ x) (replicate-append-replicate k 1 (pair 0 0) ∙ ap (λ (i : ℕ). replicate i (pair 0 0)) (add-one k)))

  answer-columns : (k : ℕ) (stop : Bool) (n : ℕ) (s : Series) → above w (pollutants_of (standings_of s)) ≡ false
      → answer (w + k) stop n s ≡ open_pairs k (answer w stop n s)
  answer-columns k stop n (passed m ss) a = rw (pairs-columns k ss a) refl
  answer-columns k stop n (failed m grounds ss) a = rw (pairs-columns k ss a) refl
  answer-columns k stop n (referred m ss) a = rw (pairs-columns k ss a) refl
  answer-columns k stop n (held m ss) a = rw (pairs-columns k ss a) refl
  answer-columns k true n (ongoing ss) a = rw (pairs-columns k ss a) refl
  answer-columns k false n (ongoing ss) a = rw (pairs-columns k ss a) refl

-- the same records, judged with room for k pollutants more
pub judge-columns : (w k q : ℕ) (rs : List Record) → above w (declared rs) ≡ false → judge_records (w + k) q rs ≡ open_pairs k (judge_records w q rs)
unfolding judge_records
judge-columns w k q rs a =
    answer-columns w k (stopped rs) (length (engines rs)) (series_of q rs)
    (rw (after-pollutants (plan_of (plan_number rs)) (run_ins rs) q (declared rs) (engines rs) (length (engines rs))) a)

-- ---- the report: the same bytes, and zeros behind

pair-bytes : (ps : List Pair) (k : ℕ) → pair_bytes (ps ++ replicate k (pair 0 0)) ≡ pair_bytes ps ++ replicate (2 * k) 0
pair-bytes (pair d e ∷ ps) k = ap (λ (l : List ℕ). d ∷ e ∷ l) (pair-bytes ps k)
pair-bytes [] zero = refl
pair-bytes [] (suc k) = let e : 2 * suc k ≡ suc (suc (2 * k)) = omega arith in rw (e, pair-bytes [] k) refl

pub report-columns : (w k : ℕ) (verdict engine grounds : ℕ) (ps : List Pair)
    → report_bytes (w + k) (open_pairs k (judgement verdict engine grounds ps)) ≡ widened_record k (report_bytes w (judgement verdict engine grounds ps))
report-columns w k v n g ps =
    ap (λ (l : List ℕ). 16 ∷ v ∷ g ∷ n ∷ l)
    (ap (λ (l : List ℕ). l ++ replicate (2 * (w + k)) 0) (pair-bytes ps k)
    ∙ append_assoc (pair_bytes ps) (replicate (2 * k) 0) (replicate (2 * (w + k)) 0)
    ∙ ap (λ (l : List ℕ). pair_bytes ps ++ l)
    (replicate-append-replicate (2 * k) (2 * (w + k)) 0 ∙ ap (λ (i : ℕ). replicate i 0) sum ∙ sym (replicate-append-replicate (2 * w) (4 * k) 0))
    ∙ sym (append_assoc (pair_bytes ps) (replicate (2 * w) 0) (replicate (4 * k) 0)))
  where
    sum : 2 * k + 2 * (w + k) ≡ 2 * w + 4 * k
    sum = omega arith
