-- The program's answer as document 02's.
use Rattle.std.specs.Prelude.{Option, Some, None, Result, Ok, Err}
use Rattle.rules.specs.DeclaredValue as rules
use Rattle.refusals.specs.declared.Reason.{Reason}
use Rattle.refusals.specs.Numbers.{number_is}
use Rattle.declared_value.specs.declared.Approval.{Approval}

abbrev pub approval_is : Result (Option Approval) Reason → rules.Approval
approval_is (Ok None) = rules.another
approval_is (Ok (Some a)) = rules.value a.sum a.count
approval_is (Err r) = rules.refusal (number_is r)
