-- A record at a time: what is written so far, and behind it what the output held.
use Rattle.arithmetic.proofs.Basics.{◌/◌, ◌<◌, refl, length}
use Rattle.rules.specs.Sheet.{size}
use Rattle.layout.specs.Sizes.{width_is}
use Rattle.converting.proofs.Steps.{begin, next}
use Rattle.converting.proofs.recast.Goals as goal

pub loop-k-init : goal.loop-k-init
loop-k-init c = begin _ _ _ _

pub loop-k-preserved : goal.loop-k-preserved
loop-k-preserved c =
    let i : c.loop-k.k < length c.args.sheet.now / size (width_is c.args.size) = rw c.records_in-k-end.ensures at c.loop-k-test.true in
    next _ _ _ c.requires c.loop-k.invariant i c.record_at-r.ensures refl c.copy_from_slice.ensures.after refl (c.fill.ensures.after (λ y e. e)) refl
