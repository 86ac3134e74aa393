-- What the loop over the pollutants keeps, and the verdict on all of them.
use Rattle.arithmetic.proofs.Basics.{arith, ◌≡◌}
use Rattle.rules.specs.Sheet.{Pollutant, pollutant}
use Rattle.accepted.specs.Sheets.{record_at_lem}
use Rattle.accepted.proofs.Sheets.{inside, record-inside}
use Rattle.layout.specs.Sizes.{width_is}
use Rattle.checking.proofs.Laws as laws
use Rattle.tally.proofs.Looping.{accepted-as, Opened, sheet, pollutants-first, kept-none, column-range, kept_more}
use Rattle.tally.proofs.Tallied.{engines-few, gate-fits, judged-so}
use Rattle.tally.proofs.judgement_of.Goals as goal
use Rattle.tally.proofs.judgement_of.Goals.{After-gate_of-gate, After-deviation_of}

pub invariant_of-tested : goal.invariant_of-tested
invariant_of-tested c = record { accepted = accepted-as _ c.args.sheet.valid c.of.ensures }

pub gate_of-gate-requires : goal.gate_of-gate-requires
gate_of-gate-requires c = record { all = laws.engines-are c.args.sheet.valid }

opened : (c : After-gate_of-gate) → let a = c.args.sheet in Opened a.size a.bytes.now a.said c.of.result c.gate_of-gate.result
opened c = record { valid = c.args.sheet.valid; planned = c.of.ensures; gated = c.gate_of-gate.ensures }

pub loop-k-init : goal.loop-k-init
loop-k-init c = rw (← c.of.ensures) (kept-none (opened (goal.at.loop-k-init c).After-gate_of-gate) c.rows.ensures c.all.ensures)

pub record_at-r-requires : goal.record_at-r-requires
record_at-r-requires c =
    let o = opened (goal.at.record_at-r-requires c).After-gate_of-gate in
    record { inside = record-inside _ _ _ _ (inside (sheet o)) (omega (arith, pollutants-first o)) }

-- the pollutant of the record that the turn looks at
pollutant-read : (c : After-deviation_of)
    → ◌≡◌ {A = Pollutant} (record { number = c.number_of-number.result; limit = c.limit_of.result; deviation = c.deviation_of.result })
    (pollutant (record_at_lem (width_is c.args.sheet.size) c.args.sheet.bytes.now c.loop-k.k))
unfolding pollutant
pollutant-read c = rw (c.number_of-number.ensures.0, c.limit_of.ensures, c.deviation_of.ensures, c.record_at-r.ensures)

pub column-d-requires : goal.column-d-requires
column-d-requires c =
    let at = goal.at.column-d-requires c in
    column-range (opened at.After-gate_of-gate) (rw (← c.of.ensures) at c.loop-k.invariant) c.loop-k-test.true (pollutant-read at.After-deviation_of)

pub loop-k-preserved : goal.loop-k-preserved
loop-k-preserved c =
    let at = goal.at.loop-k-preserved c in
    rw (← c.of.ensures) (kept_more (opened at.After-gate_of-gate) (rw (← c.of.ensures) at c.loop-k.invariant) c.loop-k-test.true (pollutant-read at.After-deviation_of)
    c.column-d.ensures c.with-t.ensures)

pub overflow_cast-said-2 : goal.overflow_cast-said-2
overflow_cast-said-2 c = omega (arith, engines-few (opened (goal.at.overflow_cast-said-2 c).After-gate_of-gate))

pub verdict-requires : goal.verdict-requires
verdict-requires c = gate-fits (opened (goal.at.verdict-requires c).After-gate_of-gate)

pub returns : goal.returns
returns c = judged-so (opened (goal.at.returns c).After-gate_of-gate) (rw (← c.of.ensures) at c.loop-k.invariant) c.loop-k-test.false c.verdict.ensures c.up_to.ensures
