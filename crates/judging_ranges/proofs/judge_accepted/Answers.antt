-- 27, 28, 29, or what judging says of the two.
use Rattle.arithmetic.proofs.Basics.{ap, ◌∙◌}
use Rattle.std.specs.Prelude.{Err}
use Rattle.judging_ranges.specs.Ranges.{range_is}
use Rattle.judging_ranges.proofs.Judging.{both, unequally-long, compared, differ, cross, other-plan, answered}
use Rattle.judging_ranges.proofs.judge_accepted.Goals as goal

pub returns-then-low-high : goal.returns-then-low-high
returns-then-low-high c =
    ap (λ r. range_is (Err r)) c.into.ensures ∙ unequally-long (both c.args.low.valid c.args.high.valid c.requires.same_size) c.if-low-high.true

pub compare-found-requires : goal.compare-found-requires
compare-found-requires c = compared (both c.args.low.valid c.args.high.valid c.requires.same_size) c.if-low-high.false

pub returns-then-found : goal.returns-then-found
returns-then-found c =
    ap (λ r. range_is (Err r)) c.into-then-found.ensures ∙ differ (both c.args.low.valid c.args.high.valid c.requires.same_size) c.compare-found.ensures c.if-found.true

pub returns-then-found-2 : goal.returns-then-found-2
returns-then-found-2 c =
    ap (λ r. range_is (Err r)) c.into-then-found-2.ensures
    ∙ cross (both c.args.low.valid c.args.high.valid c.requires.same_size) c.compare-found.ensures c.if-found.false c.if-found-2.true

pub returns-then-other_plan : goal.returns-then-other_plan
returns-then-other_plan c =
    ap (λ r. range_is (Err r)) c.into-then-other_plan.ensures
    ∙ other-plan (both c.args.low.valid c.args.high.valid c.requires.same_size) c.compare-found.ensures c.if-found.false c.if-found-2.false c.if-other_plan.true

pub returns : goal.returns
returns c =
    answered (both c.args.low.valid c.args.high.valid c.requires.same_size) c.compare-found.ensures c.if-found.false c.if-found-2.false c.if-other_plan.false
    c.surely.ensures
