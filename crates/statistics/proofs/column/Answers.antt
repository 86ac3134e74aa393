-- Plan 3 counts, and each of the others takes logarithms, with its own table.
use Rattle.arithmetic.proofs.Basics.{refl, sym, arith}
use Rattle.layout.specs.Sizes.{width_is}
use Rattle.tables.proofs.TableRows.{none-named}
use Rattle.statistics.proofs.Going.{early-open, in-engines}
use Rattle.statistics.proofs.column.Goals as goal

pub returns-then-rows-lt3 : goal.returns-then-rows-lt3
returns-then-rows-lt3 c =
    let a = c.args in
    record { declared = refl; decides = sym (early-open (width_is a.sheet.size) a.sheet.plan a.sheet.bytes.now a.number a.limit a.deviation _ c.if-rows-lt3.true) }

-- where there are rows, the sheet has an engine
pub correction_of-correction-requires : goal.correction_of-correction-requires
correction_of-correction-requires c =
    record { declared = c.requires.declared; tested = omega (arith, c.if-rows-lt3.false, (in-engines c.args.sheet.accepted c.requires).0) }

pub returns-in-None : goal.returns-in-None
returns-in-None c = rw (none-named c.args.sheet.plan (rw c.in-None.is at c.table_of.ensures.rows)) (c.column-in-None.ensures _)
