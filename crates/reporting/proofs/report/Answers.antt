-- A size that there is not, the output's own refusal, judging's, or judging's answer in as many bytes as the size has.
use Rattle.std.proofs.lemmas.Result.{err_from_is_err_and}
use Rattle.std.specs.Prelude.{Err}
use Rattle.arithmetic.proofs.Basics.{arith, ◌≡◌, ap, sym, ◌∙◌, ◌≤◌, refl, length, take, length-take-le, take_all, rules}
use Rattle.rules.specs.Sheet.{size}
use Rattle.rules.specs.Operations.{reported}
use Rattle.layout.specs.Sizes.{width_is}
use Rattle.outcomes.specs.Outcomes.{outcome_is}
use Rattle.reporting.specs.Judging.{judged_check}
use Rattle.outcomes.proofs.Kept.{kept}
use Rattle.reporting.proofs.Reporting.{too_short, answer-is, wrote, report-unknown, reported-unknown, report-known}
use Rattle.reporting.proofs.report.Goals as goal

pub returns-in_err-size : goal.returns-in_err-size
returns-in_err-size c =
    let p = err_from_is_err_and c.from_residual.result c.from_residual.ensures.1 in
    record {
      result_value = ap outcome_is (p.1 ∙ ap Err p.2) ∙ report-unknown _ _ _ c.try_from.ensures c.in_err-size.was;
      output_after = reported-unknown _ _ _ c.try_from.ensures c.in_err-size.was;
    }

pub returns-then-output-bytes : goal.returns-then-output-bytes
unfolding reported
returns-then-output-bytes c =
    let k = report-known _ c.args.sheet.now c.args.output.now c.try_from.ensures c.in_ok-size.was
    (kept (too_short c.in_ok-size.size _ _ (rw c.bytes.ensures at c.if-output-bytes.true)) (ap (λ r. outcome_is (Err r)) c.into.ensures) _ _) in
    record { result_value = k.0; output_after = k.1 }

pub returns-in_err-judgement : goal.returns-in_err-judgement
unfolding reported
returns-in_err-judgement c =
    let p = err_from_is_err_and c.from_residual-in_err-judgement.result c.from_residual-in_err-judgement.ensures.1 in
    let t = ap judged_check c.in_err-judgement.was in
    let room : size (width_is c.in_ok-size.size) ≤ length c.args.output.now = rw c.bytes.ensures at c.if-output-bytes.false in
    let k = report-known _ c.args.sheet.now c.args.output.now c.try_from.ensures c.in_ok-size.was
    (kept (answer-is c.in_ok-size.size _ _ room c.judge_sheet.result c.judge_sheet.ensures.result_value ∙ t) (ap outcome_is (p.1 ∙ ap Err p.2)) _ _) in
    record { result_value = k.0; output_after = k.1 }

-- there is room for as many bytes as the size has
pub slice_bounds-copy_from_slice-end-in-Twenty-2 : goal.slice_bounds-copy_from_slice-end-in-Twenty-2
slice_bounds-copy_from_slice-end-in-Twenty-2 c =
    let n : length c.values-values.result ≡ 28 = search rules in
    sym (length-take-le 20 c.values-values.result (omega arith))

pub copy_from_slice-requires : goal.copy_from_slice-requires
copy_from_slice-requires c =
    let n : length c.values-values.result ≡ 28 = search rules in
    let room : size (width_is c.in_ok-size.size) ≤ length c.args.output.now = rw c.bytes.ensures at c.if-output-bytes.false in
    let h : 20 ≤ length c.args.output.now = rw c.in-Twenty.is at room in
    length-take-le 20 c.args.output.now h ∙ sym (length-take-le 20 c.values-values.result (omega arith))

pub slice_bounds-copy_from_slice-end-in-TwentyEight-2 : goal.slice_bounds-copy_from_slice-end-in-TwentyEight-2
slice_bounds-copy_from_slice-end-in-TwentyEight-2 c =
    let room : size (width_is c.in_ok-size.size) ≤ length c.args.output.now = rw c.bytes.ensures at c.if-output-bytes.false in
    let h : 28 ≤ length c.args.output.now = rw c.in-TwentyEight.is at room in
    sym (length-take-le 28 c.args.output.now h)

pub copy_from_slice-requires-in-TwentyEight : goal.copy_from_slice-requires-in-TwentyEight
copy_from_slice-requires-in-TwentyEight c =
    let n : length c.values-values.result ≡ 28 = search rules in
    let room : size (width_is c.in_ok-size.size) ≤ length c.args.output.now = rw c.bytes.ensures at c.if-output-bytes.false in
    let h : 28 ≤ length c.args.output.now = rw c.in-TwentyEight.is at room in
    length-take-le 28 c.args.output.now h ∙ sym n

pub returns-in-Twenty : goal.returns-in-Twenty
unfolding reported
returns-in-Twenty c =
    let z = c.in-Twenty.is in
    let room : size (width_is c.in_ok-size.size) ≤ length c.args.output.now = rw c.bytes.ensures at c.if-output-bytes.false in
    let k = report-known _ c.args.sheet.now c.args.output.now c.try_from.ensures c.in_ok-size.was
    (wrote c.in_ok-size.size _ _ room c.judge_sheet.result c.judge_sheet.ensures.result_value c.in_ok-judgement.was (take 20 c.values-values.result)
    c.values-values.ensures (rw z refl) (rw (z, c.copy_from_slice.ensures.after) refl)) in
    record { result_value = k.0; output_after = k.1 }

pub returns-in-TwentyEight : goal.returns-in-TwentyEight
unfolding reported
returns-in-TwentyEight c =
    let z = c.in-TwentyEight.is in
    let n : length c.values-values.result ≡ 28 = search rules in
    let room : size (width_is c.in_ok-size.size) ≤ length c.args.output.now = rw c.bytes.ensures at c.if-output-bytes.false in
    let k = report-known _ c.args.sheet.now c.args.output.now c.try_from.ensures c.in_ok-size.was
    (wrote c.in_ok-size.size _ _ room c.judge_sheet.result c.judge_sheet.ensures.result_value c.in_ok-judgement.was c.values-values.result
    c.values-values.ensures (rw z (sym (take_all 28 c.values-values.result (omega arith)))) (rw (z, c.copy_from_slice-in-TwentyEight.ensures.after) refl)) in
    record { result_value = k.0; output_after = k.1 }
