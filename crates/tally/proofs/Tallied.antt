-- The judgement of an accepted sheet, from the tally of its columns.
use Rattle.arithmetic.proofs.Basics.{ℕ, ◌≤◌, arith, ◌≡◌, sym, ap, ◌∙◌, List, map, eqb, length}
use Rattle.rules.specs.Logarithm.{squarings}
use Rattle.rules.specs.Sheet.{pollutants, more_pollutants, records, stop_kind}
use Rattle.rules.specs.Series as rules
use Rattle.rules.specs.Refusals.{check, accepted}
use Rattle.accepted.specs.Sheets.{pollutants_in}
use Rattle.accepted.proofs.Sheets.{rows_fit, last-most}
use Rattle.sizes.proofs.Columns.{judge-columns, own-above}
use Rattle.layout.specs.declared.Size.{Size}
use Rattle.layout.specs.declared.Size.TheVariants.{Twenty, TwentyEight}
use Rattle.layout.specs.Sizes.{width_is}
use Rattle.summary.specs.declared.Summary.{Summary}
use Rattle.checking.proofs.Laws as laws
use Rattle.columns.specs.Columns.{up_to}
use Rattle.columns.specs.Tally.{tallied, judge_by_tally}
use Rattle.columns.proofs.Gates.{gate-most}
use Rattle.columns.proofs.Tally.{tally-end}
use Rattle.columns.proofs.Marks.{marked-end}
use Rattle.columns.proofs.Sheets.{sheet-by-tally, declared-marks}
use Rattle.causes.specs.declared.Gate.{Gate}
use Rattle.causes.specs.Causes.{gate_is, before_in}
use Rattle.plan.specs.declared.Plan.{Plan}
use Rattle.plan.specs.Plan.{plan_is}
use Rattle.pollutants.specs.declared.Each.{Each}
use Rattle.decisions.specs.declared.Decision.{Decision}
use Rattle.decisions.specs.Decisions.{decisions_is, declared_is_lem}
use Rattle.tally.specs.declared.Verdict.{Verdict}
use Rattle.tally.specs.declared.Tally.{Tally}
use Rattle.tally.specs.Judgements.{verdict_is, six_pairs, JudgementIs}
use Rattle.tally.specs.Tally.{tally_is, VerdictIs, GateFits}
use Rattle.tally.proofs.Looping.{Opened, Kept, sheet, columns_of}

-- the answer with six columns is the sheet's, with an open pair for each pollutant that its records have no room for
six-columns : (z : Size) (b : List ℕ) → check (width_is z) b ≡ accepted
    → rules.judge_records more_pollutants squarings (records (width_is z) b) ≡ six_pairs (width_is z) (rules.judge_records (width_is z) squarings (records (width_is z) b))
six-columns Twenty b e = judge-columns pollutants 2 squarings (records pollutants b) (own-above pollutants b e)
six-columns TwentyEight b e = judge-columns more_pollutants 0 squarings (records more_pollutants b) (own-above more_pollutants b e)

module _ {z : Size} {b : List ℕ} {s : Summary} {plan : Plan} {g : Gate} (o : Opened z b s plan g) where
  pub engines-few : s.engines ≤ 32
  engines-few = omega (arith, laws.engines-are o.valid, rows_fit (sheet o), last-most (plan_is plan))

  pub gate-fits : GateFits g
  gate-fits = record { few = rw o.gated (omega (arith, gate-most (before_in (width_is z) (plan_is plan) b) s.engines, engines-few)) }

  pub judged-so : {k : ℕ} {t : Tally} → Kept z b s.pollutants (plan_is plan) g k t → s.pollutants ≤ k
      → {v : Verdict} → VerdictIs t g (eqb s.kind stop_kind) s.engines v
      → {ds : Each Decision} → (decisions_is ds ≡ map (up_to t.rows) (decisions_is t.decisions)) × (declared_is_lem ds ≡ declared_is_lem t.decisions)
      → JudgementIs (width_is z) b (record { verdict = v; decisions = ds })
  unfolding judge_by_tally tallied
  judged-so {k} {t} kept l {v} ve {ds} de =
      let e : k ≡ length (pollutants_in (width_is z) b) = omega (arith, kept.few, laws.pollutants-are o.valid) in
      let all = rw (e, tally-end (columns_of (width_is z) (plan_is plan) b) (pollutants_in (width_is z) b) (tally_is t)) at kept.left in
      let marks = rw (e, marked-end (pollutants_in (width_is z) b) (declared_is_lem t.decisions)) at kept.marks in
      record {
        judges =
            ap (λ (xs : List rules.Decision). verdict_is v (map rules.pair_of xs)) de.0
            ∙ ve _
            ∙ ap (tallied (eqb s.kind stop_kind) s.engines (gate_is g)) all
            ∙ (rw (o.gated, (sheet o).planned, laws.stopped-is o.valid, laws.engines-are o.valid) (sym (sheet-by-tally (sheet o) more_pollutants squarings)))
            ∙ six-columns z b (sheet o).accepts;
        declares = de.1 ∙ marks ∙ declared-marks (sheet o) more_pollutants;
      }
