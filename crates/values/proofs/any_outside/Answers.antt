-- What `any` finds by the test of each value is the definition's.
use Rattle.std.proofs.Common.{◌∙◌, refl, ◌||◌, rules, tests}
use Rattle.std.specs.List.{list_any}
use Rattle.std.proofs.lemmas.Iterator.{YieldsList-from_slice}
use Rattle.std.proofs.lemmas.Iterator.Search.{any_from_yields_List}
use Rattle.std.proofs.lemmas.List.Recursion.{same_from_clauses}
use Rattle.rules.specs.Tools.{any}
use Rattle.rules.specs.Logarithm.{outside}
use Rattle.values.proofs.any_outside.Goals as goal

pub returns : goal.returns
returns c =
    let values = c.args.values.now in
    any_from_yields_List outside _ _ _ c.any.ensures.ran (YieldsList-from_slice values cc) (λ x b q k. search (rules, tests))
    ∙ same_from_clauses (list_any outside) (any outside) (λ x found. outside x || found) refl (λ _ _. refl) (λ _ _. refl) values
