-- The loop over the declared pollutants of an accepted sheet: the tally of those that are left is the tally of all, and so are the marks.
use Rattle.arithmetic.proofs.Basics.{ℕ, zero, suc, ◌+◌, ◌≤◌, ◌<◌, arith, add-one, ◌≡◌, refl, sym, ap, ◌∙◌, true, false, List, [], ◌∷◌, map, eqb, length, get_or}
use Rattle.arithmetic.proofs.Basics.{drop, eq-eqb, or-true}
use Rattle.rules.specs.Logarithm.{squarings}
use Rattle.rules.specs.Sheet.{Pollutant, more_pollutants, numbers, pollutant, declares}
use Rattle.rules.specs.Plans as plans
use Rattle.rules.specs.Plans.{plan_of}
use Rattle.rules.specs.Series as rules
use Rattle.rules.specs.Refusals.{greatest_deviation}
use Rattle.accepted.specs.Sheets.{record_at_lem, pollutants_in, run_ins_in, engines_in, AcceptedSheet}
use Rattle.accepted.proofs.ByNumber.{InOrder}
use Rattle.accepted.proofs.Sheets.{order, declared-first, pollutant-is}
use Rattle.layout.specs.declared.Size.{Size}
use Rattle.layout.specs.Sizes.{width_is}
use Rattle.summary.specs.declared.Summary.{Summary}
use Rattle.checking.specs.Check.{Valid}
use Rattle.checking.proofs.Laws as laws
use Rattle.plan.specs.declared.Plan.{Plan}
use Rattle.plan.specs.Plan.{plan_is}
use Rattle.logarithm.specs.Four.{Measured}
use Rattle.columns.specs.Columns.{row_of, column_of, rows_of}
use Rattle.columns.specs.Tally as columns
use Rattle.columns.proofs.Cut.{Column, is-column}
use Rattle.columns.proofs.Tally.{with-most, tally-next}
use Rattle.columns.proofs.Marks.{marked_next}
use Rattle.causes.specs.declared.Gate.{Gate}
use Rattle.causes.specs.Causes.{gate_is, before_in, gate_of_lem}
use Rattle.decisions.specs.declared.Decision.{Decision}
use Rattle.decisions.specs.declared.Decision.TheVariants.{Undeclared}
use Rattle.pollutants.specs.declared.Each.{Each}
use Rattle.pollutants.specs.Each.{all_lem, with_lem}
use Rattle.decisions.specs.Decisions.{decision_is, declared_is_lem}
use Rattle.statistics.specs.Column.{ColumnIs}
use Rattle.statistics.specs.Ranges.{ColumnRange}
use Rattle.decisions.proofs.Placing.{with-declared}
use Rattle.tally.specs.declared.Tally.{Tally}
use Rattle.tally.specs.Tally.{tally_is}

-- a pollutant that is declared, with limit and deviation in range
record InRange (ps : List Pollutant) (p : Pollutant) : Type 0 where
  declared : declares ps p.number ≡ true
  limited : Measured p.limit
  deviating : p.deviation ≤ greatest_deviation

order-at : (w m : ℕ) (ps : List Pollutant) (d : Pollutant) → InOrder w m ps → (k : ℕ) → k < length ps → InRange ps (get_or ps k d)
unfolding declares
order-at w m [] d o k l = absurd (omega arith)
order-at w m (p ∷ ps) d o zero l =
    record { declared = rw (eq-eqb p.number p.number refl) refl; limited = (o.2, o.3); deviating = o.4 }
order-at w m (p ∷ ps) d o (suc k) l =
    let r = order-at w p.number ps d o.5 k (omega arith) in
    record { declared = rw r.declared (or-true (eqb p.number (get_or ps k d).number)); limited = r.limited; deviating = r.deviating }

abbrev pub columns_of : (w : ℕ) → plans.Plan → List ℕ → Pollutant → ℕ → rules.Decision
columns_of w plan b = column_of plan (pollutants_in w b) (run_ins_in w b) squarings (engines_in w b)

-- the sheet is accepted, and of the plan that it says
pub accepted-as : {z : Size} {b : List ℕ} {s : Summary} (plan : Plan) → Valid z b s → plan_is plan ≡ plan_of s.plan → AcceptedSheet (width_is z) b (plan_is plan) s.head
accepted-as plan v e = rw e (laws.accepted-so v)

-- an accepted sheet, its plan and its gate
pub record Opened (z : Size) (b : List ℕ) (s : Summary) (plan : Plan) (g : Gate) : Type 0 where
  pub valid : Valid z b s
  pub planned : plan_is plan ≡ plan_of s.plan
  pub gated : gate_is g ≡ gate_of_lem (width_is z) (plan_is plan) b s.engines

-- what the loop keeps after k of so many pollutants
pub record Kept (z : Size) (b : List ℕ) (many : ℕ) (plan : plans.Plan) (g : Gate) (k : ℕ) (t : Tally) : Type 0 where
  pub few : k ≤ many
  pub lower : t.rows ≤ rows_of (gate_is g)
  pub left : columns.tally (columns_of (width_is z) plan b) (drop k (pollutants_in (width_is z) b)) (tally_is t)
      ≡ columns.tally (columns_of (width_is z) plan b) (pollutants_in (width_is z) b) (columns.started more_pollutants (rows_of (gate_is g)))
  pub marks : columns.marked (drop k (pollutants_in (width_is z) b)) (declared_is_lem t.decisions) ≡ columns.marked (pollutants_in (width_is z) b) (map (λ p. false) (numbers more_pollutants))

module _ {z : Size} {b : List ℕ} {s : Summary} {plan : Plan} {g : Gate} (o : Opened z b s plan g) where
  abbrev ps : List Pollutant
  ps = pollutants_in (width_is z) b

  pub sheet : AcceptedSheet (width_is z) b (plan_is plan) s.head
  sheet = accepted-as plan o.valid o.planned

  -- the pollutants stand before the first engine
  pub pollutants-first : s.pollutants ≤ s.head
  pollutants-first = rw (laws.pollutants-are o.valid) (declared-first sheet)

  each : (p : Pollutant) → Column (columns_of (width_is z) (plan_is plan) b p)
  each p = is-column (before_in (width_is z) (plan_is plan) b) (row_of (plan_is plan) (run_ins_in (width_is z) b) squarings (engines_in (width_is z) b) p)

  pub kept-none : {rows : ℕ} {ds : Each Decision} → rows ≡ rows_of (gate_is g) → ds ≡ all_lem Undeclared
      → Kept z b s.pollutants (plan_is plan) g 0 (record { rows = rows; latest = 0; failed = false; waits = false; decisions = ds })
  unfolding columns.started
  kept-none re de = rw (re, de) (record { few = omega arith; lower = omega arith; left = refl; marks = refl })

  module _ {k : ℕ} {t : Tally} (kept : Kept z b s.pollutants (plan_is plan) g k t) (l : k < s.pollutants)
      {n L d : ℕ} (e : record { number = n; limit = L; deviation = d } ≡ pollutant (record_at_lem (width_is z) b k)) where
    in_list : k < length ps
    in_list = rw (← (laws.pollutants-are o.valid)) l

    is-pollutant : get_or ps k (pollutant []) ≡ record { number = n; limit = L; deviation = d }
    is-pollutant = pollutant-is sheet k in_list ∙ sym e

    pub column-range : ColumnRange (width_is z) b plan n L d t.rows
    column-range =
        let r = rw is-pollutant at (order-at (width_is z) 0 ps (pollutant []) (order sheet) k in_list) in
        record {
          declared = r.declared;
          limit = r.limited;
          deviation = r.deviating;
          inside = rw (← (laws.engines-are o.valid), ← o.gated) kept.lower;
        }

    pub kept_more : {x : Decision} → ColumnIs (width_is z) plan b n L d t.rows x → {u : Tally}
        → (tally_is u ≡ columns.counted n (decision_is x) (tally_is t)) × (u.decisions ≡ with_lem t.decisions n x)
        → Kept z b s.pollutants (plan_is plan) g (k + 1) u
    kept_more {x} xe {u} ue =
        let p : Pollutant = record { number = n; limit = L; deviation = d } in
        let w : tally_is u ≡ columns.counted n (columns_of (width_is z) (plan_is plan) b p t.rows) (tally_is t) = ue.0 ∙ (rw xe.decides refl) in
        let f = rw is-pollutant at (marked_next ps (pollutant []) k (declared_is_lem t.decisions) in_list) in
        record {
          few = omega arith;
          lower = omega (arith, with-most (columns_of (width_is z) (plan_is plan) b) each p (tally_is t), kept.lower, ap (λ (o : columns.Tally). o.rows) w);
          left = rw (add-one k, w) (sym (rw is-pollutant at (tally-next (columns_of (width_is z) (plan_is plan) b) ps (pollutant []) k (tally_is t) in_list)) ∙ kept.left);
          marks = rw (add-one k, ue.1, with-declared n x t.decisions, xe.declared) (sym f ∙ kept.marks);
        }
