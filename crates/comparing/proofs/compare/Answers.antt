-- The record before the first engine's tells whether there are run-in values; what the numbers then say is what document 02 asks.
use Rattle.arithmetic.proofs.Basics.{◌-◌, arith, ◌≡◌, refl, sym, ◌∙◌, eqb}
use Rattle.rules.specs.Sheet.{run_in_kind, kind}
use Rattle.accepted.specs.Sheets.{record_at_lem}
use Rattle.accepted.proofs.Sheets.{headed, inside, record-inside}
use Rattle.layout.specs.Sizes.{width_is}
use Rattle.comparing.proofs.Compared.{Bytes, differs-is, crosses-is}
use Rattle.comparing.proofs.compare.Goals as goal

pub overflow_sub-start : goal.overflow_sub-start
overflow_sub-start c = headed c.requires.low_sheet

pub record_at-requires : goal.record_at-requires
record_at-requires c = let p = c.requires.low_sheet in record { inside = record-inside _ _ _ _ (inside p) (omega (arith, headed p)) }

pub returns : goal.returns
returns c =
    let low : Bytes c.args.low.now = λ k. omega (arith, c.type_inv.low k) in
    let high : Bytes c.args.high.now = λ k. omega (arith, c.type_inv.high k) in
    let run_in : eqb c.kind_of.result run_in_kind ≡ eqb (kind (record_at_lem (width_is c.args.size) c.args.low.now (c.args.start - 1))) run_in_kind =
    rw (c.kind_of.ensures.0, c.record_at.ensures) refl in
    let e = c.compare_records.ensures in
    record {
      differing = e.differs_value ∙ differs-is c.requires low high _ run_in;
      crossing = λ f. e.crosses_value ∙ crosses-is c.requires low high _ run_in (sym e.differs_value ∙ f);
    }
