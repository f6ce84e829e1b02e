-- Refused by the image, the policy or the length, refused by planning, and else opened. Assumes nothing.
use native.Mathlib.Omega.{arith}
use Rattle.std.proofs.lemmas.Result.{err_from_is_err_and}
use Rattle.rules.proofs.Reasons.{some_number}
use Rattle.recording.proofs.Opening.{length-refused, plan-refused, few-cells, some_bytes, planned-opens}
use Rattle.recording.proofs.open.Goals as goal
use mathlib.Core.Path.{refl}

pub returns-then-not-whole_frames : goal.returns-then-not-whole_frames
returns-then-not-whole_frames c = length-refused _ _ _ _ c.if-not-whole_frames.ensures c.length_refusal.ensures

pub returns-in_err-counts : goal.returns-in_err-counts
returns-in_err-counts c =
    let p = err_from_is_err_and c.from_residual.result c.from_residual.ensures.1 in
    rw (p.1, p.2)
    (plan-refused _ _ _ _ c.if-not-whole_frames.ensures c.in_err-counts.ensures (some_number c.in_err-counts.field-0.0.reason))

pub overflow_mul-frame_bytes : goal.overflow_mul-frame_bytes
overflow_mul-frame_bytes c = omega (arith, few-cells _ _ _ _ c.if-not-whole_frames.ensures c.in_ok-counts.ensures refl)

pub overflow_mul-frame_bytes-2 : goal.overflow_mul-frame_bytes-2
overflow_mul-frame_bytes-2 c = omega (arith, few-cells _ _ _ _ c.if-not-whole_frames.ensures c.in_ok-counts.ensures refl)

pub nonzero_div-result : goal.nonzero_div-result
nonzero_div-result c = some_bytes _ _ _ _ c.if-not-whole_frames.ensures c.in_ok-counts.ensures refl

pub returns : goal.returns
returns c = planned-opens _ _ _ _ c.if-not-whole_frames.ensures c.in_ok-counts.ensures refl
