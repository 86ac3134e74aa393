-- The limit where nothing is divided; else the quotient, or the greatest measurement where that is less.
use Rattle.corrections.proofs.Correcting.{most-is-limit, most-is-least}
use Rattle.corrections.proofs.most_uncounted.Goals as goal

pub returns-then-correction : goal.returns-then-correction
returns-then-correction c = λ x h. rw c.if-correction.true (most-is-limit c.args.limit c.args.correction.first x c.args.correction.first_in_range.0)

pub returns : goal.returns
returns c = λ x h. rw (c.min.ensures, c.from.ensures, c.from-2.ensures) (rw (c.from-3.ensures, c.from-4.ensures) (most-is-least _ _ x c.args.correction.value_in_range.0 h))
