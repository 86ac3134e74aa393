-- In plan 4 by the causes of the first three vehicles, and in the other plans there are none.
use Rattle.std.proofs.Common.{tests}
use Rattle.std.proofs.lemmas.Iterator.{YieldsList-from_range}
use Rattle.std.proofs.lemmas.Iterator.Search.{any_from_yields_List}
use Rattle.arithmetic.proofs.Basics.{refl, not, eqb, rules}
use Rattle.accepted.proofs.Sheets.{caused}
use Rattle.layout.specs.Sizes.{width_is}
use Rattle.causes.specs.Causes.{cause_in}
use Rattle.causes.proofs.Emitting.{first_plain, first_asked}
use Rattle.causes.proofs.Gating.{not-in-service}
use Rattle.causes.proofs.first_row.Goals as goal
use Rattle.causes.proofs.first_row.Goals.{else-eq-via-then-eq+else-any, else-eq-via-else-eq}

pub returns-then-any : goal.returns-then-any
returns-then-any c =
    rw c.if-any.true at (first_asked _ _ c.requires.some
    (any_from_yields_List (λ k. not (eqb (cause_in (width_is c.args.sheet.size) c.args.sheet.bytes.now k) 0)) _ _ _ c.any.ensures.ran (YieldsList-from_range 0 3 3 refl refl) (λ x t q k. search (rules, tests))))

pub returns-else-eq : goal.returns-else-eq
returns-else-eq c =
    elim c.else-eq.branch [
      | else-eq-via-then-eq+else-any v ↦
          rw v.if-any.false at (first_asked _ _ c.requires.some
          (any_from_yields_List (λ k. not (eqb (cause_in (width_is c.args.sheet.size) c.args.sheet.bytes.now k) 0)) _ _ _ v.any.ensures.ran (YieldsList-from_range 0 3 3 refl refl) (λ x t q k. search (rules, tests))))
      | else-eq-via-else-eq v ↦ first_plain _ _ (rw (not-in-service c.args.sheet.plan (search (rules, tests))) at (caused c.args.sheet.accepted))
    ]
