-- Record by record: what was found so far, with one record more.
use Rattle.arithmetic.proofs.Basics.{◌/◌, ◌<◌, refl, length}
use Rattle.rules.specs.Sheet.{size}
use Rattle.layout.specs.Sizes.{width_is}
use Rattle.comparing.proofs.Walking.{same_more, measured-more, all-differ, all_cross}
use Rattle.comparing.proofs.compare_records.Goals as goal
use Rattle.comparing.proofs.compare_records.Goals.{then-same, else-same}

pub loop-k-preserved : goal.loop-k-preserved
loop-k-preserved c =
    let s = c.loop-k.invariant in
    let h : c.loop-k.k < length c.args.low.now / size (width_is c.args.size) = rw c.records_in-n.ensures at c.loop-k-test.true in
    elim c.if-same.branch [
      | then-same w ↦
          rw (w.differs-is, w.crosses-is) (same_more s h c.bytes.ensures refl c.disagree_at-differs.ensures w.if-same.true w.any_disagrees-differs.ensures)
      | else-same w ↦
          rw (w.differs-is, w.crosses-is) (measured-more s h c.bytes.ensures refl c.disagree_at-differs.ensures w.if-same.false w.any_disagrees-crosses.ensures)
    ]

pub returns : goal.returns
returns c =
    let s = c.loop-k.invariant in
    let h = rw c.records_in-n.ensures at c.loop-k-test.false in
    record { differs_value = all-differ s h; crosses_value = all_cross s h }
