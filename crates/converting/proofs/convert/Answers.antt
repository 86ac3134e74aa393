-- A size that there is not, the sheet's own refusal, 31, 32, or the sheet in the other size.
use Rattle.std.proofs.lemmas.Result.{err_from_is_err_and}
use Rattle.std.specs.Prelude.{Err}
use Rattle.arithmetic.proofs.Basics.{arith, sym, ap, ◌∙◌, refl}
use Rattle.rules.specs.Converter.{converted}
use Rattle.accepted.proofs.Faultless.{sound}
use Rattle.layout.specs.Sizes.{width_is}
use Rattle.layout.proofs.Sizes.{width-range, no_size, size_is, why-unknown}
use Rattle.checking.specs.Check.{refusal_of}
use Rattle.checking.proofs.Laws.{valid, refused-sheet}
use Rattle.outcomes.specs.Outcomes.{outcome_is, check_is}
use Rattle.outcomes.proofs.Kept.{kept, kept_by}
use Rattle.converting.proofs.Answering.{size-refused, sheet-refused, narrowing-refused, output-refused, carried, added-most}
use Rattle.converting.proofs.convert.Goals as goal

pub returns-in_err-size : goal.returns-in_err-size
unfolding converted
returns-in_err-size c =
    let p = err_from_is_err_and c.from_residual.result c.from_residual.ensures.1 in
    let w = ap refusal_of (why-unknown c.args.size c.try_from.ensures c.in_err-size.was) in
    let k = kept (size-refused c.args.sheet.now c.args.output.now c.args.size (no_size c.args.size c.try_from.ensures c.in_err-size.was)) (ap outcome_is (p.1 ∙ ap Err (p.2 ∙ w))) _ _ in
    record { result_value = k.0; output_after = k.1 }

pub returns-in_default : goal.returns-in_default
unfolding converted
returns-in_default c =
    let z = c.in_ok-size.size in
    let t = c.in_default.is in
    let k = kept (sheet-refused _ _ z (size_is c.args.size c.try_from.ensures c.in_ok-size.was) (refused-sheet z _ (sym c.check_sheet-checked.ensures ∙ t))) (c.checked_outcome.ensures ∙ ap check_is t) _ _ in
    record { result_value = k.0; output_after = k.1 }

pub returns-then-limits : goal.returns-then-limits
unfolding converted
returns-then-limits c =
    let v = valid _ _ c.check_sheet-checked.ensures c.in-Ok.is in
    let k = kept_by c.into.ensures (narrowing-refused _ _ c.in_ok-size.size (size_is c.args.size c.try_from.ensures c.in_ok-size.was) v refl c.if-limits.true) _ _ in
    record { result_value = k.0; output_after = k.1 }

pub returns-then-output-added : goal.returns-then-output-added
unfolding converted
returns-then-output-added c =
    let v = valid _ _ c.check_sheet-checked.ensures c.in-Ok.is in
    let k = kept_by c.into-then-output-added.ensures (output-refused _ _ c.in_ok-size.size (size_is c.args.size c.try_from.ensures c.in_ok-size.was) v refl c.if-limits.false
    (rw (c.added_bytes-added.ensures, c.records_in.ensures) at c.if-output-added.true)) _ _ in
    record { result_value = k.0; output_after = k.1 }

pub recast-requires : goal.recast-requires
recast-requires c =
    let z = c.in_ok-size.size in
    let s = sound (width_is z) _ (valid _ _ c.check_sheet-checked.ensures c.in-Ok.is).accepts in
    record {
      wide = (width-range z).0;
      whole = s.whole;
      few = omega (arith, c.added_bytes-added.ensures, added-most z);
      room = rw c.records_in.ensures at c.if-output-added.false;
    }

pub returns : goal.returns
returns c =
    let v = valid _ _ c.check_sheet-checked.ensures c.in-Ok.is in
    let k = carried _ _ c.in_ok-size.size (size_is c.args.size c.try_from.ensures c.in_ok-size.was) v refl c.if-limits.false
    (rw (c.added_bytes-added.ensures, c.records_in.ensures) at c.if-output-added.false) (rw c.added_bytes-added.ensures at c.recast.ensures) in
    record { result_value = k.0; output_after = k.1 }
