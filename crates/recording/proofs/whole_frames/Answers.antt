-- The header's counts are small, so no product wraps. Assumes nothing.
use native.Mathlib.Omega.{arith}
use Rattle.recording.proofs.Length.{few-cells, none-measured, measured}
use Rattle.recording.proofs.whole_frames.Goals as goal

pub overflow_mul-frame_bytes : goal.overflow_mul-frame_bytes
overflow_mul-frame_bytes c = omega (arith, few-cells c.header-header.ensures)

pub overflow_mul-frame_bytes-2 : goal.overflow_mul-frame_bytes-2
overflow_mul-frame_bytes-2 c = omega (arith, few-cells c.header-header.ensures)

pub returns-then-frame_bytes-eq0 : goal.returns-then-frame_bytes-eq0
returns-then-frame_bytes-eq0 c = none-measured c.header-header.ensures _ c.if-frame_bytes-eq0.true

pub returns : goal.returns
returns c = measured c.header-header.ensures _ (omega arith)
