-- "The two-word comparison is shown correct for all widths of its words, then used": at 64 bits.
use Rattle.arithmetic.proofs.Basics.{◌∙◌, ◌≡◌, arith, ltb, eqb, cond}
use Rattle.std.proofs.lemmas.Grind.{common_steps}
use Rattle.wide.proofs.Words.{less-words}
use Rattle.wide.proofs.less.Goals as goal

by-words : (c : goal.After-lt) → let x = c.args.x in let y = c.args.y in c.lt.result ≡ cond (eqb x.hi y.hi) (ltb x.lo y.lo) (ltb x.hi y.hi)
by-words c = grind (arith, common_steps)

pub returns : goal.returns
returns c = let x = c.args.x in let y = c.args.y in by-words c ∙ less-words 64 x.hi x.lo y.hi y.lo (omega arith) (omega arith)
