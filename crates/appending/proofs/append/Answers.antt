-- A size that there is not, and the refusals in document 01's order; the buffer is written only where there is none.
use Rattle.std.proofs.Common.{ap, ◌∙◌, arith}
use Rattle.std.proofs.lemmas.Result.{err_from_is_err_and}
use Rattle.std.specs.Prelude.{Err}
use Rattle.arithmetic.proofs.Basics.{◌+◌, ◌≤◌, ◌<◌, ◌≡◌, length}
use Rattle.rules.specs.Sheet.{size}
use Rattle.layout.specs.Sizes.{width_is}
use Rattle.outcomes.specs.Outcomes.{check_is}
use Rattle.appending.proofs.Appending.{bad-record, no_room_lem, checked-joined, wrote, append-unknown, append-known, append-refused, append-checked}
use Rattle.appending.proofs.append.Goals as goal

pub returns-in_err-size : goal.returns-in_err-size
returns-in_err-size c =
    let p = err_from_is_err_and c.from_residual.result c.from_residual.ensures.1 in
    let k = append-unknown _ c.args.buffer.now c.args.used c.args.added.now c.try_from.ensures c.in_err-size.was (p.1 ∙ ap Err p.2) in
    record { result_value = k.0; buffer_after = k.1 }

pub returns-then-added-bytes : goal.returns-then-added-bytes
returns-then-added-bytes c =
    let k = append-refused _ _ _ _ c.try_from.ensures c.in_ok-size.was c.into.ensures (bad-record c.in_ok-size.size c.args.buffer.now c.args.used c.args.added.now (rw c.bytes.ensures at c.if-added-bytes.true)) in
    record { result_value = k.0; buffer_after = k.1 }

pub returns-then-buffer-used : goal.returns-then-buffer-used
returns-then-buffer-used c =
    let z = c.in_ok-size.size in
    let l : length c.args.added.now ≡ size (width_is z) = rw c.bytes.ensures at c.if-added-bytes.false in
    let k = append-refused _ _ _ _ c.try_from.ensures c.in_ok-size.was c.into-then-buffer-used.ensures (no_room_lem z c.args.buffer.now c.args.used c.args.added.now l (omega (arith, c.if-buffer-used.true))) in
    record { result_value = k.0; buffer_after = k.1 }

pub returns-then-buffer-used-2 : goal.returns-then-buffer-used-2
returns-then-buffer-used-2 c =
    let z = c.in_ok-size.size in
    let l : length c.args.added.now ≡ size (width_is z) = rw c.bytes.ensures at c.if-added-bytes.false in
    let h : length c.args.buffer.now < c.args.used + size (width_is z) = omega (arith, c.if-buffer-used-2.true, c.bytes-2.ensures, c.if-buffer-used.false) in
    let k = append-refused _ _ _ _ c.try_from.ensures c.in_ok-size.was c.into-then-buffer-used-2.ensures (no_room_lem z c.args.buffer.now c.args.used c.args.added.now l h) in
    record { result_value = k.0; buffer_after = k.1 }

pub returns-in_default : goal.returns-in_default
returns-in_default c =
    let z = c.in_ok-size.size in
    let l : length c.args.added.now ≡ size (width_is z) = rw c.bytes.ensures at c.if-added-bytes.false in
    let s : c.args.used + size (width_is z) ≤ length c.args.buffer.now = omega (arith, c.if-buffer-used-2.false, c.bytes-2.ensures, c.if-buffer-used.false) in
    let k = append-checked _ _ _ _ c.try_from.ensures c.in_ok-size.was c.in_default.is (checked-joined z _ _ _ l s c.check_joined-checked.ensures) c.checked_outcome.ensures in
    record { result_value = k.0; buffer_after = k.1 }

pub returns : goal.returns
returns c =
    let z = c.in_ok-size.size in
    let l : length c.args.added.now ≡ size (width_is z) = rw c.bytes.ensures at c.if-added-bytes.false in
    let s : c.args.used + size (width_is z) ≤ length c.args.buffer.now = omega (arith, c.if-buffer-used-2.false, c.bytes-2.ensures, c.if-buffer-used.false) in
    let h : c.args.used + length c.args.added.now ≤ length c.args.buffer.now = omega (arith, s, l) in
    let k = append-known _ _ _ _ c.try_from.ensures c.in_ok-size.was
    (wrote z _ _ _ (checked-joined z _ _ _ l s c.check_joined-checked.ensures ∙ ap check_is c.in-Ok.is) l h c.copy_from_slice.ensures.after) in
    record { result_value = k.0; buffer_after = k.1 }
