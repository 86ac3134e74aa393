-- The tests of the record's numbers, four or six, are those of the definition.
use Rattle.comparing.proofs.Words.{four-disagree, six-disagree}
use Rattle.comparing.proofs.any_disagrees.Goals as goal

pub returns-in-Twenty : goal.returns-in-Twenty
returns-in-Twenty g c = four-disagree _ _ _ _ c.either_disagrees.ensures c.either_disagrees-2.ensures c.in-Twenty.is

pub returns-in-TwentyEight : goal.returns-in-TwentyEight
returns-in-TwentyEight g c =
    six-disagree _ _ _ _ c.either_disagrees.ensures c.either_disagrees-2.ensures c.in-TwentyEight.is c.either_disagrees-in-TwentyEight.ensures
