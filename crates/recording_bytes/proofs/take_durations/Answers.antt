-- The durations before the index are read. Assumes nothing.
use native.Mathlib.Omega.{arith}
use Rattle.fields.proofs.Cats.{cat-none}
use Rattle.fields.proofs.Tabs.{tab-more}
use Rattle.recording_bytes.proofs.take_durations.Invariants.{duration}
use Rattle.recording_bytes.proofs.take_durations.Goals as goal

pub loop-k-init : goal.loop-k-init
loop-k-init c = cat-none _ _ 0

pub loop-k-preserved : goal.loop-k-preserved
loop-k-preserved c =
    let t = c.loop-k in
    tab-more (duration c.args.bytes.now) c.args.durations.now 0 t.k t.k (omega arith) (omega arith) (omega arith) c.be32.ensures.0 t.invariant
